use Rattle.std.proofs.Common.{sym, ◌∙◌}
use Rattle.fdc_core.proofs.Words.{heard_time}
use Rattle.fdc_core.proofs.controller.Fdc.write_on.Goals as goal

pub returns-else-is_due : goal.returns-else-is_due
returns-else-is_due g c =
    heard_time c.args.head_drive c.args.steps c.args.writing c.args.self.now (g.D.Drive.state c.args.drive.now) (g.D.Drive.state c.hear_writing.new.drive) c.hear_writing.new.self (sym c.is_due.ensures ∙ c.if-is_due.false) (c.hear_writing.ensures c.args.steps c.args.writing c.requires.at)
