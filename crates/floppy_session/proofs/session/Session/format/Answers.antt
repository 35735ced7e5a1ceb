use Rattle.std.proofs.Common.{arith}
use Rattle.floppy_session.proofs.Endings.{format_refused}
use Rattle.floppy_session.proofs.Named.{runs_on, keeps_formats}
use Rattle.floppy_session.proofs.session.Session.format.Goals as goal

pub invariant_of-self : goal.invariant_of-self
invariant_of-self g c =
    runs_on _ _ _ (keeps_formats _ _ c.args.bay c.args.c c.args.h c.format_gap-gap3.result 246 c.format.result c.format.ensures.step)
    c.self.invariant c.format.ensures.ready

pub returns-then-bay-gt1 : goal.returns-then-bay-gt1
returns-then-bay-gt1 g c told =
    rw c.bad_request.ensures (format_refused c.args.self.now told c.args.bay c.args.c c.args.h (omega arith))
