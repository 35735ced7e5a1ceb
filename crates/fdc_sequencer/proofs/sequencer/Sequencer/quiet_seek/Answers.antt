use Rattle.std.proofs.Common.{◌≤◌, arith, sym, ◌∙◌}
use Rattle.fdc_sequencer.proofs.Common.{steps_ahead, front_state}
use Rattle.fdc_sequencer.proofs.Quieting.{seek_lasts}
use Rattle.fdc_sequencer.proofs.sequencer.Sequencer.quiet_seek.Goals as goal

pub returns-clause-lasts : goal.returns-clause-lasts
returns-clause-lasts g c =
    let front = front_state g.D.Drive.state c.args.self.now in
    let most : c.min.result ≤ steps_ahead front.adapter = omega (arith, c.min.ensures, c.from.ensures, c.steps_ahead.ensures) in
    seek_lasts c.min.result front (sym c.is_executing.ensures ∙ c.if-is_executing.false) most
