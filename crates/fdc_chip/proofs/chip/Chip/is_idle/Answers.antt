use Rattle.std.proofs.Common.{sym, ◌∙◌}
use Rattle.fdc_chip.proofs.chip.Chip.is_idle.Goals as goal

pub returns-in-None-clause-idle : goal.returns-in-None-clause-idle
returns-in-None-clause-idle g c = λ is. record { rests = sym c.rests.ensures ∙ is; unpaced = c.in-None.is }
