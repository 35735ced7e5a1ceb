use Rattle.imagedisk.proofs.Common.{AreTakenBelow}
use Rattle.imagedisk.proofs.taking.from_medium.Given as goal

abbrev pub invariant-loop-place : goal.invariant-loop-place
invariant-loop-place l = AreTakenBelow l.medium l.place l.tracks
