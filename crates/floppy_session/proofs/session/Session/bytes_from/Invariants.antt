use Rattle.std.proofs.Common.{◌≡◌}
use Rattle.floppy_session.proofs.Common.{bytes_from}
use Rattle.floppy_session.proofs.session.Session.bytes_from.Given as goal

abbrev pub invariant-loop-i : goal.invariant-loop-i
invariant-loop-i g l = l.content.items ≡ bytes_from l.self.station.memory l.address l.i
