-- Port accesses on the machine that is handed in.
use Rattle.std.proofs.Common.{◌≡◌, ◌∙◌, ℕ, List, Option, Some, None, ap, false}
use Rattle.std.specs.Prelude.{IsSome}
use Rattle.floppy_tools.proofs.Common.{DriveState, with_motor, Board, IsEmpty, IsFreshBoard, IsBare}

-- a drive that was put into a new machine empty is empty
made : (bay drive : DriveState) → IsEmpty bay → drive ≡ with_motor false bay → drive.medium ≡ None
made bay drive empty is = ap (λ (d : DriveState). d.medium) is ∙ empty.medium

-- a machine as it is made has no medium in
pub bare : (board : Board) → IsFreshBoard board → IsBare board
bare board fresh = record {
  first = made fresh.bay0 board.first fresh.first fresh.new.first;
  second = made fresh.bay1 board.second fresh.second fresh.new.second;
}

-- a name that was read is the one that the arguments spell
pub named_file : (read spelled : Option (List ℕ)) (file named : List ℕ) → read ≡ Some file → read ≡ spelled → spelled ≡ Some named → file ≡ named
named_file read spelled file named is reads names = cc

-- memory for a name can run out only where the arguments spell one
pub wants_file : (spelled : Option (List ℕ)) → IsSome spelled → spelled ≡ None → ⊥
wants_file (Some file) some none = absurd cc
wants_file None some none = absurd cc
