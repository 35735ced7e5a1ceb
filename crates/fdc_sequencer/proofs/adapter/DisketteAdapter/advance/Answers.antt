use Rattle.std.proofs.Common.{arith}
use Rattle.fdc_sequencer.proofs.Common.{adapter_state}
use Rattle.fdc_sequencer.proofs.AdapterRuns.{leap_runs, runs_one}
use Rattle.fdc_sequencer.proofs.adapter.DisketteAdapter.advance.Goals as goal

pub returns-then-made-ne0-clause-runs : goal.returns-then-made-ne0-clause-runs
returns-then-made-ne0-clause-runs g c =
    leap_runs c.pass_times-made.result (adapter_state g.D.Drive.state c.args.self.now) (adapter_state g.D.Drive.state c.pass_times-made.new.self)
    c.pass_times-made.ensures.passes

pub returns-clause-runs : goal.returns-clause-runs
returns-clause-runs g c =
    runs_one c.pass_times-made.result (adapter_state g.D.Drive.state c.args.self.now) (adapter_state g.D.Drive.state c.pass_times-made.new.self)
    (adapter_state g.D.Drive.state c.step.new.self) (omega arith) c.pass_times-made.ensures.passes c.step.ensures
