use Rattle.std.proofs.Common.{◌≡◌, length, take}
use Rattle.sector_map.proofs.Common.{track_keys}
use Rattle.sector_map.proofs.standard.keys_of_track.Given as goal

-- the keys so far
abbrev pub invariant-loop-i : goal.invariant-loop-i
invariant-loop-i l = (length l.keys ≡ 18) × (take l.i l.keys ≡ track_keys l.i l.c l.h)
