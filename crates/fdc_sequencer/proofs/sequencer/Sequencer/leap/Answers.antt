use Rattle.fdc_sequencer.proofs.Common.{front_state}
use Rattle.fdc_sequencer.proofs.Runs.{front_leaps, leaps_none}
use Rattle.fdc_sequencer.proofs.sequencer.Sequencer.leap.Goals as goal

pub returns-then-is_under_way-clause-leaps : goal.returns-then-is_under_way-clause-leaps
returns-then-is_under_way-clause-leaps g c =
    front_leaps c.leap.result (front_state g.D.Drive.state c.args.self.now) _ (c.is_under_way.ensures c.if-is_under_way.true) c.leap.ensures.leaps

pub returns-clause-leaps : goal.returns-clause-leaps
returns-clause-leaps g c = leaps_none (front_state g.D.Drive.state c.args.self.now)
