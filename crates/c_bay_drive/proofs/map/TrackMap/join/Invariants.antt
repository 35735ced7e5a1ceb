use Rattle.std.proofs.Common.{◌≡◌, ℕ, ◌<◌, length, get_or}
use Rattle.std.specs.Int.RustNames.{bit_or}
use Rattle.c_bay_drive.proofs.map.TrackMap.join.Given as goal

abbrev pub invariant-loop-at : goal.invariant-loop-at
invariant-loop-at l =
    (length l.bits ≡ 20) × ((k : ℕ) → k < l.at → get_or l.bits k 0 ≡ bit_or (get_or l.fn.other k 0) (get_or l.fn.self k 0))
