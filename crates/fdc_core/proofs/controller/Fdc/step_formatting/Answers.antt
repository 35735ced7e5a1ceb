use Rattle.std.proofs.Common.{refl, sym, ◌∙◌, false}
use Rattle.fdc_core.proofs.Common.{false≢true, Stopped, Protected}
use Rattle.fdc_core.proofs.controller.Fdc.step_formatting.Goals as goal

pub returns-then-protected : goal.returns-then-protected
returns-then-protected g c = record {
  does = record {
    time = Stopped;
    is = c.stop-then-protected.ensures.drive;
    does = record {
      ending = Protected;
      needs = false;
      takes = λ up. absurd (false≢true up);
      needed = λ lead has up. absurd (false≢true up);
      stops = (c.if-steps-eq0.true, sym c.protected.ensures ∙ c.if-protected.true);
      after_is = c.stop-then-protected.ensures.state;
    };
  };
  guards = λ first protects. refl;
}
