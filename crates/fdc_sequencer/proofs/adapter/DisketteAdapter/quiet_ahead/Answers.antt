use Rattle.fdc_sequencer.proofs.Common.{nothing_foreseen, adapter_state, drive_selected}
use Rattle.fdc_sequencer.proofs.adapter.DisketteAdapter.quiet_ahead.Goals as goal

pub returns-in_default-clause-foresees : goal.returns-in_default-clause-foresees
returns-in_default-clause-foresees g c =
    nothing_foreseen c.args.self.now.controller (drive_selected (adapter_state g.D.Drive.state c.args.self.now))
