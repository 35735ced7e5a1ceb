use Rattle.std.proofs.Common.{◌≤◌, ◌-◌}
use Rattle.fdc_chip.proofs.Common.{chip_state, HasLinesChip, RunsChipWith}
use Rattle.fdc_chip.proofs.chip.Chip.run.Given as goal

abbrev pub invariant-loop-made : goal.invariant-loop-made
invariant-loop-made g l = RunsChipWith l.int l.drq l.made (chip_state g.D.Drive.state l.fn.self) (chip_state g.D.Drive.state l.self)
    × HasLinesChip l.int l.drq (chip_state g.D.Drive.state l.self) × (l.made ≤ l.most)

abbrev pub decreases-loop-made : goal.decreases-loop-made
decreases-loop-made g l = l.most - l.made
