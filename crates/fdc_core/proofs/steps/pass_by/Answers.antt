use Rattle.std.proofs.Common.{sym, ◌∙◌}
use Rattle.fdc_core.proofs.steps.pass_by.Goals as goal

pub returns-then-fits-clause-passed : goal.returns-then-fits-clause-passed
returns-then-fits-clause-passed c = λ passes. let passed = c.pass_by.ensures.passed passes in (sym c.fits.ensures ∙ c.if-fits.true, passed.0, passed.1)
