use Rattle.std.proofs.Common.{sym, ◌∙◌}
use Rattle.fdc_sequencer.proofs.Quieting.{foresees_none}
use Rattle.fdc_chip.proofs.Common.{chip_state}
use Rattle.fdc_chip.proofs.Awaiting.{awaits_quiet}
use Rattle.fdc_chip.proofs.Dues.{none_quiet}
use Rattle.fdc_chip.proofs.chip.Chip.quiet_busy.Goals as goal

pub returns-then-awaits_results-clause-lines : goal.returns-then-awaits_results-clause-lines
returns-then-awaits_results-clause-lines g c = λ quiet.
    awaits_quiet c.quiet_ahead.result (chip_state g.D.Drive.state c.args.self.now) (sym c.awaits_results.ensures ∙ c.if-awaits_results.true)
    (c.quiet_ahead.ensures.lasts quiet)

pub returns-clause-foresees : goal.returns-clause-foresees
returns-clause-foresees g c = foresees_none (chip_state g.D.Drive.state c.args.self.now).front

pub returns-clause-lines : goal.returns-clause-lines
returns-clause-lines g c = λ quiet. none_quiet (chip_state g.D.Drive.state c.args.self.now)
