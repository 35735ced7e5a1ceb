use Rattle.fdc_sequencer.proofs.Common.{front_state}
use Rattle.fdc_sequencer.proofs.Runs.{adapter_runs}
use Rattle.fdc_sequencer.proofs.sequencer.Sequencer.run_through.Goals as goal

pub returns : goal.returns
returns g c = adapter_runs c.args.most (front_state g.D.Drive.state c.args.self.now) _ _ c.requires c.run.ensures
