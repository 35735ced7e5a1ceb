use Rattle.std.proofs.Common.{◌≡◌, ℕ, List, length, ◌++◌}
use Rattle.saved_state.specs.Saved.{spelled_list, EachFits}
use Rattle.saved_state.proofs.lists.load_list.Given as goal

-- what is left are the bytes of the values that are still to be read
abbrev pub invariant-loop-list : goal.invariant-loop-list
invariant-loop-list g l =
    (values : List _) (rest : List ℕ) → EachFits g.T.Saved.Fits values → l.initial.from ≡ spelled_list g.T.Saved.spelled values rest
    → (left : List _) × EachFits g.T.Saved.Fits left × (values ≡ l.list.items ++ left)
    × (l.from ≡ spelled_list g.T.Saved.spelled left rest)

abbrev pub decreases-loop-list : goal.decreases-loop-list
decreases-loop-list g l = length l.from
