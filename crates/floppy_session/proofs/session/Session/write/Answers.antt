use Rattle.floppy_session.proofs.Named.{runs_on, keeps_writes}
use Rattle.floppy_session.proofs.session.Session.write.Goals as goal

pub invariant_of-self : goal.invariant_of-self
invariant_of-self g c =
    runs_on _ _ _ (keeps_writes _ _ c.args.bay c.args.key c.args.address _ c.write.result c.write.ensures.step) c.self.invariant c.write.ensures.ready
