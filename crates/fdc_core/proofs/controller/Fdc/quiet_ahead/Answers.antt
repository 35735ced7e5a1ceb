use Rattle.std.proofs.Common.{◌∙◌, ap, sym}
use Rattle.fdc_core.proofs.Common.{false≢true, rate_fits}
use Rattle.fdc_core.proofs.Foreseeing.{nothing_foreseen}
use Rattle.fdc_core.proofs.Longest.{disturbed}
use Rattle.fdc_core.proofs.controller.Fdc.quiet_ahead.Goals as goal
use Rattle.fdc_core.proofs.controller.Fdc.quiet_ahead.Goals.{then-self-via-then-self, then-self-via-else-self+then-self-2}

pub returns-then-self-clause-foresees : goal.returns-then-self-clause-foresees
returns-then-self-clause-foresees g c = nothing_foreseen c.args.self.now (g.D.Drive.state c.args.drive.now)

pub returns-then-self-clause-longest : goal.returns-then-self-clause-longest
returns-then-self-clause-longest g c =
    disturbed c.args.most 0 c.args.self.now (g.D.Drive.state c.args.drive.now) (λ still. elim c.then-self.branch [
      | then-self-via-then-self w ↦ false≢true (sym still.unpolled ∙ w.if-self.true)
      | then-self-via-else-self+then-self-2 w ↦ false≢true (sym still.low ∙ w.if-self-2.true)
    ])

pub returns-else-fits-clause-foresees : goal.returns-else-fits-clause-foresees
returns-else-fits-clause-foresees g c = nothing_foreseen c.args.self.now (g.D.Drive.state c.args.drive.now)

pub returns-else-fits-clause-longest : goal.returns-else-fits-clause-longest
returns-else-fits-clause-longest g c =
    disturbed c.args.most 0 c.args.self.now (g.D.Drive.state c.args.drive.now) (λ still. false≢true (sym c.if-fits.false ∙ c.fits.ensures ∙ ap (rate_fits c.args.self.now.rate) c.rate-rate.ensures ∙ still.fits))
