-- What DMA makes of a data command: its request, and the terminal count.
use Rattle.std.specs.Prelude.{Bool, true, false}
use Rattle.fdc_phases.specs.Common.{Fifo, wants}
use Rattle.fdc_phases.specs.Phases.{is_over, told, write_told, format_told}
use Rattle.fdc_phases.specs.declared.phases.Phase.{Phase}
use Rattle.fdc_phases.specs.declared.phases.Phase.TheVariants.{Execute}
use Rattle.fdc_phases.specs.declared.phases.Task.{Task}
use Rattle.fdc_phases.specs.declared.phases.Task.TheVariants.{ReadId, Read, Write, Format}

-- DRQ by the FIFO's rule, where `asking` is what it was before; only a command that moves bytes requests DMA
abbrev pub task_asks : Task → Bool → Fifo → Bool
task_asks (Read reading) asking fifo = wants true asking (is_over reading.stage) fifo
task_asks (ReadId _) asking fifo = false
task_asks (Write writing) asking fifo = wants false asking writing.counted fifo
task_asks (Format formatting) asking fifo = wants false asking formatting.counted fifo

abbrev pub phase_asks : Phase → Bool → Fifo → Bool
phase_asks (Execute execution) asking fifo = task_asks execution.task asking fifo
phase_asks _ asking fifo = false

-- the terminal count comes: a READ DATA gives no further byte, and its FIFO is emptied. A write takes no further byte,
-- and the bytes in its FIFO stay
abbrev pub task_told : Task → Task
task_told (ReadId search) = ReadId search
task_told (Read reading) = Read (told reading)
task_told (Write writing) = Write (write_told writing)
task_told (Format formatting) = Format (format_told formatting)

abbrev pub phase_told : Phase → Phase
phase_told (Execute execution) = Execute (record execution { task = task_told execution.task })
phase_told phase = phase
