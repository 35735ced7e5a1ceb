use Rattle.std.proofs.Common.{◌≡◌}
use Rattle.fdc_chip.proofs.Common.{chip_state, drained_by}
use Rattle.fdc_chip.proofs.chip.Chip.drain.Given as goal

abbrev pub invariant-loop-drive : goal.invariant-loop-drive
invariant-loop-drive g l = chip_state g.D.Drive.state l.self ≡ drained_by l._drive (chip_state g.D.Drive.state l.fn.self)
