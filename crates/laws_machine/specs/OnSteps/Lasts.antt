-- How long calls last, besides the gaps after port accesses, which are used up.
use Rattle.std.specs.Prelude.{◌≤◌, ◌+◌, ℕ, List, [], ◌∷◌}
use Rattle.laws_machine.specs.Common.{Board}
use Rattle.laws_machine.specs.OnSteps.Moves.{Goes}

-- the device steps of these gaps
abbrev pub gap_steps : List ℕ → ℕ
gap_steps [] = 0
gap_steps (gap ∷ rest) = gap + gap_steps rest

-- the device steps of the gaps that are still to come
abbrev pub gaps_left : Board → ℕ
gaps_left board = gap_steps board.bus.gaps

-- the device steps that were counted, and those of the gaps that are still to come
abbrev pub clock_of : Board → ℕ
clock_of board = board.bus.steps + gaps_left board

-- a course of at most `most` device steps, besides those of the gaps that it used up
pub record Lasts (most : ℕ) (old new : Board) : Type 0 where
  pub steps : ℕ
  pub goes : Goes old steps new
  pub few : steps + gaps_left new ≤ gaps_left old + most
