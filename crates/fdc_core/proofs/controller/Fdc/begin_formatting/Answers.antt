use Rattle.std.proofs.Common.{ap, ◌∙◌}
use Rattle.fdc_core.proofs.Common.{asked}
use Rattle.fdc_core.proofs.controller.Fdc.begin_formatting.Goals as goal

pub returns : goal.returns
returns c =
    (c.formatting_track-task.result, c.formatting_track-task.ensures.is c.args.head_drive, c.formatting_track-task.ensures.waits, c.ask.ensures ∙ ap asked c.begin.ensures)
