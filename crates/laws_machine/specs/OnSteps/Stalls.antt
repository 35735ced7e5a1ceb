-- Late DMAs (stalls), which are counted when a request waited too long.
use Rattle.std.specs.Prelude.{◌⊎◌, ℕ, ◌≤◌, min, Bool, List}
use Rattle.laws_machine.specs.Common.{last_count, Rose, Board, holds_of, Step}
use Rattle.laws_machine.specs.OnSteps.Steady.{regapped}

-- a late DMA was counted
abbrev pub Stalled : Board → Board → Type 0
Stalled old new = Rose (holds_of old).stalls (holds_of new).stalls

-- a count doesn't fall, except to its last value
abbrev pub Grows : ℕ → ℕ → Type 0
Grows before now = min before last_count ≤ now

-- a property holds, or a late DMA was counted since
pub record UntilStalled (P : Board → Type 0) (start now : Board) : Type 0 where
  pub grows : Grows (holds_of start).stalls (holds_of now).stalls
  pub holds : P now ⊎ Stalled start now

-- a property that each step keeps until a late DMA is counted
pub record Keeping (P : Board → Type 0) : Type 0 where
  pub step : (old new : Board) → Step old new → P old → P new ⊎ Stalled old new
  pub idle : (old : Board) (gaps : List ℕ) (fresh : Bool) → P old → P (regapped gaps fresh old)
