use Rattle.imagedisk.proofs.Common.{HasFirst}
use Rattle.imagedisk.proofs.making.to_medium.Given as goal

abbrev pub invariant-loop-i : goal.invariant-loop-i
invariant-loop-i l = HasFirst l.least l.image l.medium l.i
