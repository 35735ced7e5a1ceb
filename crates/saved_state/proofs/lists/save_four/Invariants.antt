use Rattle.std.proofs.Common.{ℕ, List, take, drop}
use Rattle.saved_state.specs.Saved.{Awaits, spelled_each, EachFits}
use Rattle.saved_state.proofs.lists.save_four.Given as goal

-- the values so far were written
abbrev pub invariant-loop-value : goal.invariant-loop-value
invariant-loop-value g l =
    EachFits g.T.Saved.Fits (take l.value-index l.values)
    × ((all rest : List ℕ) → Awaits l.initial.to all (spelled_each g.T.Saved.spelled l.values rest)
    → Awaits l.to all (spelled_each g.T.Saved.spelled (drop l.value-index l.values) rest))
