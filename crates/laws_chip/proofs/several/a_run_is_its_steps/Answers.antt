use Rattle.laws_chip.proofs.Common.{asks_outside, interrupts_outside}
use Rattle.laws_chip.proofs.Called.{both_within, run_steps}
use Rattle.laws_chip.proofs.several.a_run_is_its_steps.Goals as goal

pub returns-clause-steps : goal.returns-clause-steps
returns-clause-steps c = λ most old n new runs within. run_steps (interrupts_outside old) (asks_outside old) n old new runs.runs within

pub returns-clause-both : goal.returns-clause-both
returns-clause-both c = both_within
