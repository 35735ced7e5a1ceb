use Rattle.std.proofs.Common.{◌≡◌, ◌≢◌, ℕ, ◌<◌}
use Rattle.remaster.proofs.Common.{HasTrack, track_of, HasShapeOf, IsDone}
use Rattle.remaster.proofs.disk.remaster_cylinder.Given as goal

-- the tracks of the heads so far are done, and other cylinders are as they were
abbrev pub invariant-loop-h : goal.invariant-loop-h
invariant-loop-h l = record {
  shape : HasShapeOf l.medium l.after;
  done : (h : ℕ) → h < l.h → IsDone l.medium l.after l.c h;
  others : (b g : ℕ) → HasTrack l.medium b g → b ≢ l.c → track_of l.after b g ≡ track_of l.fn.after b g;
}
