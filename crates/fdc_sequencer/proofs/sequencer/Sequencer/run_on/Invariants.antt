use Rattle.std.proofs.Common.{◌≤◌, ◌-◌}
use Rattle.fdc_sequencer.proofs.Common.{front_state, HasLinesOutside, RunsFrontWith}
use Rattle.fdc_sequencer.proofs.sequencer.Sequencer.run_on.Given as goal

abbrev pub invariant-loop-made : goal.invariant-loop-made
invariant-loop-made g l = RunsFrontWith l.int l.drq l.made (front_state g.D.Drive.state l.fn.self) (front_state g.D.Drive.state l.self)
    × HasLinesOutside l.int l.drq (front_state g.D.Drive.state l.self) × (l.made ≤ l.most)

abbrev pub decreases-loop-made : goal.decreases-loop-made
decreases-loop-made g l = l.most - l.made
