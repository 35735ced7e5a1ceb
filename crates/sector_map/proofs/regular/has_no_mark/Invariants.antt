use Rattle.sector_map.proofs.Common.{HasNoMark}
use Rattle.sector_map.proofs.regular.has_no_mark.Given as goal

abbrev pub invariant-loop-q : goal.invariant-loop-q
invariant-loop-q l = HasNoMark l.words l.from l.q
