use Rattle.std.proofs.Common.{refl, sym, ◌∙◌}
use Rattle.fdc_core.proofs.Common.{Stopped, Protected}
use Rattle.fdc_core.proofs.controller.Fdc.step_writing.Goals as goal

pub returns-then-protected : goal.returns-then-protected
returns-then-protected g c = record {
  does = record {
    time = Stopped;
    is = c.stop-then-protected.ensures.drive;
    does = record {
      ending = Protected;
      stops = (c.if-steps-eq0.true, sym c.protected.ensures ∙ c.if-protected.true);
      after_is = c.stop-then-protected.ensures.state;
    };
  };
  guards = λ first protects. refl;
}
