use Rattle.std.proofs.Common.{subst}
use Rattle.fdc_core.proofs.Common.{Closes}
use Rattle.fdc_core.proofs.drives.following.follow.Goals as goal

pub returns : goal.returns
returns g c =
    let state = g.D.Drive.state in
    record {
      between = state c.follow_dor.new.drive;
      motor = c.follow_dor.ensures;
      gate = subst (λ reset. Closes reset (state c.follow_dor.new.drive) (state c.close_gate.new.drive)) c.is_reset_by.ensures c.close_gate.ensures;
    }
