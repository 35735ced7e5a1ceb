use Rattle.std.proofs.Common.{sym, ◌∙◌}
use Rattle.fdc_core.proofs.Words.{heard_index}
use Rattle.fdc_core.proofs.controller.Fdc.format_on.Goals as goal

pub returns-else-is_due : goal.returns-else-is_due
returns-else-is_due g c =
    heard_index c.args.head_drive c.args.steps c.args.formatting c.args.self.now (g.D.Drive.state c.args.drive.now) (g.D.Drive.state c.hear_formatting.new.drive) c.hear_formatting.new.self (sym c.is_due.ensures ∙ c.if-is_due.false) (c.hear_formatting.ensures c.args.steps c.args.formatting c.requires.at)
