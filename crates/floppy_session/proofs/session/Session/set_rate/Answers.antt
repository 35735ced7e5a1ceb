use Rattle.floppy_session.proofs.Named.{runs_on, keeps_rates}
use Rattle.floppy_session.proofs.session.Session.set_rate.Goals as goal

pub invariant_of-self : goal.invariant_of-self
invariant_of-self g c =
    runs_on _ _ _ (keeps_rates _ _ c.args.bay c.args.rate c.set_rate.result c.set_rate.ensures.step) c.self.invariant c.set_rate.ensures.ready
