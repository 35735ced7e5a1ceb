use Rattle.std.proofs.Common.{◌≤◌, ◌-◌}
use Rattle.fdc_sequencer.proofs.Common.{adapter_state, HasLines, RunsWith}
use Rattle.fdc_sequencer.proofs.adapter.DisketteAdapter.run.Given as goal

abbrev pub invariant-loop-made : goal.invariant-loop-made
invariant-loop-made g l = RunsWith l.int l.drq l.made (adapter_state g.D.Drive.state l.fn.self) (adapter_state g.D.Drive.state l.self)
    × HasLines l.int l.drq (adapter_state g.D.Drive.state l.self) × (l.made ≤ l.most)

abbrev pub decreases-loop-made : goal.decreases-loop-made
decreases-loop-made g l = l.most - l.made
