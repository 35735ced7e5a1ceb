-- What the boards before and after a run say of what disturbed it.
use Rattle.std.specs.Prelude.{◌≡◌, ◌≤◌, ℕ, All, List, Some}
use Rattle.laws_program.specs.Common.{RoseLess, DriveCounts, Board, drive_in, holds_of}

-- the drive in a bay had no fault between two boards: its count didn't rise, and is below its last value
abbrev pub HadNoFault : ℕ → Board → Board → Type 0
HadNoFault bay old new = RoseLess 1 (drive_in old bay).faults (drive_in new bay).faults

-- no DMA was late between two boards: the count of stalls didn't rise, and is below its last value
abbrev pub HadNoStall : Board → Board → Type 0
HadNoStall old new = RoseLess 1 (holds_of old).stalls (holds_of new).stalls

-- nothing is left of a machine and spare drives that could go wrong: each drive tells that it can have no fault any
-- more, and no DMA latency (hold) that is left is above 8
pub record IsSound (board : Board) (waiting : List DriveCounts) : Type 0 where
  pub first : board.first.left ≡ Some 0
  pub second : board.second.left ≡ Some 0
  pub spares : All (λ drive. drive.left ≡ Some 0) waiting
  pub holds : All (λ hold. hold ≤ 8) (holds_of board).entries
