use Rattle.std.proofs.Common.{ℕ, ◌<◌}
use Rattle.sector_map.proofs.Common.{HasTrack, track_of, IsRegular}
use Rattle.sector_map.proofs.disks.is_regular_disk.Given as goal

-- the tracks of the cylinders so far are regular
abbrev pub invariant-loop-c : goal.invariant-loop-c
invariant-loop-c l = (c : ℕ) → c < l.c → (h : ℕ) → HasTrack l.medium c h → IsRegular (track_of l.medium c h) c h
