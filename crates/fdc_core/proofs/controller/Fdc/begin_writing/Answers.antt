use Rattle.std.proofs.Common.{ap, ◌∙◌}
use Rattle.fdc_core.proofs.Common.{asked}
use Rattle.fdc_core.proofs.controller.Fdc.begin_writing.Goals as goal

pub returns : goal.returns
returns c =
    (c.writing_data-task.result, c.writing_data-task.ensures.is c.args.head_drive, c.writing_data-task.ensures.waits, c.ask.ensures ∙ ap asked c.begin.ensures)
