use Rattle.std.proofs.Common.{◌≡◌, inl, subst}
use Rattle.fdc_core.proofs.Common.{finished, Late}
use Rattle.fdc_core.proofs.Words.{last_listens}
use Rattle.fdc_core.proofs.controller.Fdc.listen_on.Goals as goal

pub returns-then-steps-eq-LAST_STEP : goal.returns-then-steps-eq-LAST_STEP
returns-then-steps-eq-LAST_STEP g c =
    last_listens c.args.head_drive c.args.steps c.args.task c.args.self.now (g.D.Drive.state c.args.drive.now) (g.D.Drive.state c.stop.new.drive) c.stop.new.self c.stop.ensures.drive
    (λ word. inl (c.if-steps-eq-LAST_STEP.true, subst (λ key. c.stop.new.self ≡ finished Late c.args.head_drive key c.args.self.now) c.key_as_sent.ensures c.stop.ensures.state))
