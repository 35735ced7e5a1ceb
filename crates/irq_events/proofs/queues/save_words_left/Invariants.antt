use Rattle.std.proofs.Common.{ℕ, List}
use Rattle.std.specs.VecDeque.Iter.{deque_iter_rest}
use Rattle.saved_state.specs.Saved.{Awaits, spelled_list, spelled_word}
use Rattle.irq_events.proofs.queues.save_words_left.Given as goal

-- the words so far were written
abbrev pub invariant-loop-word : goal.invariant-loop-word
invariant-loop-word l =
    (all rest : List ℕ) → Awaits l.initial.to all (spelled_list spelled_word l.words.items rest)
    → Awaits l.to all (spelled_list spelled_word (deque_iter_rest l.word-iterator) rest)
