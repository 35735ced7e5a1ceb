-- The most bytes of a controller's state.
use Rattle.std.specs.Prelude.{◌≡◌, ◌+◌, ◌*◌, ◌≤◌, ℕ, length, Option, None, Some, ⊤}
use Rattle.telwyddus_c.specs.Common.{faults_in_bay, ControllerValue}
use Rattle.telwyddus_c.specs.Drives.{held}

-- the most bytes of a medium's image file: its header, and 16,384 words of 2 bytes on each track of 80 cylinders and 2
-- heads
abbrev pub medium_most : ℕ
medium_most = 14 + 80 * 2 * 16384 * 2

-- the most bytes of a state whose drives have so many faults planned: both media, 10 bytes for each fault, and 1,024
-- for all else
abbrev pub state_most : ℕ → ℕ
state_most faults = 2 * medium_most + 1024 + 10 * faults

-- how many faults are planned for the drives of a controller, including those that already came
abbrev pub faults_planned : ControllerValue → ℕ
faults_planned controller = length (faults_in_bay (held controller 0)) + length (faults_in_bay (held controller 1))

-- the length that is reported of a state is no more than the most bytes of a state. If memory is out, code 3, no length
-- is reported
abbrev pub TellsAtMost : Option ControllerValue → (code told : ℕ) → Type 0
TellsAtMost None code told = ⊤
TellsAtMost (Some controller) code told = (code ≡ 3 → ⊥) → told ≤ state_most (faults_planned controller)
