use Rattle.std.proofs.Common.{sym, ◌∙◌}
use Rattle.fdc_sequencer.proofs.Runs.{executing_goes}
use Rattle.fdc_sequencer.proofs.sequencer.Sequencer.goes_along.Goals as goal

pub returns-then-is_executing-clause-goes : goal.returns-then-is_executing-clause-goes
returns-then-is_executing-clause-goes g c = λ is. executing_goes c.args.self.now.adapter.controller.phase (sym c.is_executing.ensures ∙ c.if-is_executing.true)
