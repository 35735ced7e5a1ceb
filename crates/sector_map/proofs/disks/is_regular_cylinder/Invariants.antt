use Rattle.std.proofs.Common.{ℕ, ◌<◌}
use Rattle.sector_map.proofs.Common.{HasTrack, track_of, IsRegular}
use Rattle.sector_map.proofs.disks.is_regular_cylinder.Given as goal

-- the tracks of the heads so far are regular
abbrev pub invariant-loop-h : goal.invariant-loop-h
invariant-loop-h l = (h : ℕ) → h < l.h → HasTrack l.medium l.c h → IsRegular (track_of l.medium l.c h) l.c h
