use Rattle.std.proofs.Common.{arith}
use Rattle.fdc_sequencer.proofs.Common.{front_state}
use Rattle.fdc_sequencer.proofs.Runs.{leap_runs, runs_one}
use Rattle.fdc_sequencer.proofs.sequencer.Sequencer.advance.Goals as goal

pub returns-then-made-ne0-clause-runs : goal.returns-then-made-ne0-clause-runs
returns-then-made-ne0-clause-runs g c =
    leap_runs c.leap-made.result (front_state g.D.Drive.state c.args.self.now) (front_state g.D.Drive.state c.leap-made.new.self) c.leap-made.ensures.leaps

pub returns-clause-runs : goal.returns-clause-runs
returns-clause-runs g c =
    runs_one c.leap-made.result (front_state g.D.Drive.state c.args.self.now) (front_state g.D.Drive.state c.leap-made.new.self)
    (front_state g.D.Drive.state c.step.new.self) (omega arith) c.leap-made.ensures.leaps c.step.ensures
