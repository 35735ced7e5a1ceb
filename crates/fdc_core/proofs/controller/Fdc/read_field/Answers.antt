use Rattle.std.proofs.Common.{ap}
use Rattle.fdc_core.proofs.Common.{Execute, Fdc}
use Rattle.fdc_core.proofs.controller.Fdc.read_field.Goals as goal

pub returns : goal.returns
returns c = (
  c.reading_field-task.result,
  c.reading_field-task.ensures c.args.head_drive,
  ap (λ (fdc : Fdc). record fdc { phase = Execute (record { head_drive = c.args.head_drive; steps = 10; task = c.reading_field-task.result }) }) c.begin.ensures,
)
