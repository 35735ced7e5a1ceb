use Rattle.std.proofs.Common.{ℕ, ◌<◌}
use Rattle.remaster.proofs.Common.{HasShapeOf, IsDone}
use Rattle.remaster.proofs.disk.remaster.Given as goal

-- the tracks of the cylinders so far are done
abbrev pub invariant-loop-c : goal.invariant-loop-c
invariant-loop-c l = record {
  shape : HasShapeOf l.medium l.after;
  done : (c h : ℕ) → c < l.c → h < l.medium.heads → IsDone l.medium l.after c h;
}
