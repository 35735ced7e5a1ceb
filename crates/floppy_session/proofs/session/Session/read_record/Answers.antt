use Rattle.floppy_session.proofs.Named.{runs_on, keeps_reads}
use Rattle.floppy_session.proofs.OtherBytes.{reads_outside}
use Rattle.floppy_session.proofs.session.Session.read_record.Goals as goal

pub invariant_of-self : goal.invariant_of-self
invariant_of-self g c =
    runs_on _ _ _ (keeps_reads _ _ c.args.bay c.args.key c.args.address c.read.result c.read.ensures.step) c.self.invariant c.read.ensures.ready

pub returns-clause-outside : goal.returns-clause-outside
returns-clause-outside g c =
    rw (← c.self.view_is) (reads_outside _ _ c.args.bay c.args.key c.args.address c.read.result c.read.ensures.step)
