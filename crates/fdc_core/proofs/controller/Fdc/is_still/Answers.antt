use Rattle.std.proofs.Common.{sym, ◌∙◌}
use Rattle.fdc_core.proofs.Coursing.{still}
use Rattle.fdc_core.proofs.controller.Fdc.is_still.Goals as goal

pub returns-in_default-clause-still : goal.returns-in_default-clause-still
returns-in_default-clause-still c =
    λ is. still c.args.self.now (sym c.comes_poll.ensures ∙ c.if-comes_poll.false) (sym c.is_seeking.ensures ∙ c.if-is_seeking.false) c.in_default.not-Execute
