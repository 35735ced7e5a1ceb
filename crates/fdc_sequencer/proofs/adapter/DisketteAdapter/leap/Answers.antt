use Rattle.fdc_sequencer.proofs.Common.{adapter_state}
use Rattle.fdc_sequencer.proofs.AdapterRuns.{times_leap}
use Rattle.fdc_sequencer.proofs.adapter.DisketteAdapter.leap.Goals as goal

pub returns-clause-leaps : goal.returns-clause-leaps
returns-clause-leaps g c =
    times_leap c.pass_times.result (adapter_state g.D.Drive.state c.args.self.now) c.pass_times.new.self.controller
    (g.D.Drive.state c.pass_times.new.self.first) (g.D.Drive.state c.pass_times.new.self.second) c.pass_times.ensures.passes
