use Rattle.sector_map.proofs.Common.{HasNoRun}
use Rattle.sector_map.proofs.regular.has_no_run.Given as goal

abbrev pub invariant-loop-q : goal.invariant-loop-q
invariant-loop-q l = HasNoRun l.words l.from l.q
