use Rattle.fdc_chip.proofs.Common.{chip_state, KeepsRest, SwallowsBy}
use Rattle.fdc_chip.proofs.chip.Chip.swallow_all.Given as goal

abbrev pub invariant-loop-place : goal.invariant-loop-place
invariant-loop-place g l =
    SwallowsBy l._place l.fn.left (chip_state g.D.Drive.state l.fn.self).front l.now (chip_state g.D.Drive.state l.self).front
    × KeepsRest (chip_state g.D.Drive.state l.fn.self) (chip_state g.D.Drive.state l.self)
