use Rattle.sector_map.proofs.Turned.{IsHuntingFor}
use Rattle.sector_map.proofs.Common.{IsPlain, SFollows}
use Rattle.std.proofs.Common.{[]}
use Rattle.sector_map.proofs.turn.hunt_for.Given as goal

abbrev pub invariant-loop-i : goal.invariant-loop-i
invariant-loop-i l = SFollows l.fn.separator [] → IsPlain l.words → IsHuntingFor l.words l.key l.separator l.i l.has_mark
