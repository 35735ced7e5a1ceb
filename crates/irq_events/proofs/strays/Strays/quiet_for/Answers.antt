use Rattle.irq_events.proofs.Quiet.{quiet_stays, quiet_next}
use Rattle.irq_events.proofs.strays.Strays.quiet_for.Goals as goal
use Rattle.std.proofs.Common.{arith}

pub returns-in-None-clause-quiet : goal.returns-in-None-clause-quiet
returns-in-None-clause-quiet c = quiet_stays c.args.most c.self.inside.next c.self.inside.entries.items c.args.self.now c.self.view_is c.in-None.is

pub returns-in-Some-clause-quiet : goal.returns-in-Some-clause-quiet
returns-in-Some-clause-quiet c =
    quiet_next c.min.result c.self.inside.next c.in-Some.steps c.self.inside.entries.items c.args.self.now c.self.view_is c.in-Some.is
    (omega (arith, c.min.ensures, c.from.ensures, c.saturating_sub.ensures))
