use Rattle.std.proofs.Common.{◌-◌}
use Rattle.sector_map.proofs.Common.{track_keys}
use Rattle.sector_map.proofs.Listed.{HasAdded}
use Rattle.sector_map.proofs.standard.push_track.Given as goal

-- the records so far
abbrev pub invariant-loop-r : goal.invariant-loop-r
invariant-loop-r l = HasAdded l.medium (track_keys (l.r - 1) l.c l.h) l.fn.failed.items l.failed.items
