-- How many device steps a data command can wait for DMA, until a byte finds the FIFO full or is missing.
use Rattle.std.specs.Prelude.{◌≡◌, ℕ, ◌+◌, ◌≤◌, Bool, true, false, length}
use Rattle.fdc_phases.specs.Common.{Fifo, room_of, HasLead, lead_of}
use Rattle.fdc_phases.specs.declared.phases.Phase.{Phase}
use Rattle.fdc_phases.specs.declared.phases.Phase.TheVariants.{Execute}
use Rattle.fdc_phases.specs.declared.phases.Task.{Task}
use Rattle.fdc_phases.specs.declared.phases.Task.TheVariants.{ReadId, Read, Write, Format}

-- the terminal count came, or no bytes are moved
abbrev pub task_counted : Task → Bool
task_counted (ReadId _) = true
task_counted (Read reading) = reading.counted
task_counted (Write writing) = writing.counted
task_counted (Format formatting) = formatting.counted

abbrev pub phase_counted : Phase → Bool
phase_counted (Execute execution) = task_counted execution.task
phase_counted _ = true

-- so many device steps can pass without a transfer. A READ DATA has so much room in the FIFO; for a write, so many
-- bytes are in the FIFO, or words that need no byte come first
abbrev pub TaskWaits : ℕ → Task → Fifo → Type 0
TaskWaits slack (ReadId _) fifo = Unit {0}
TaskWaits slack (Read reading) fifo = reading.counted ≡ false → slack + length fifo.bytes ≤ room_of fifo.on
TaskWaits slack (Write writing) fifo = writing.counted ≡ false → slack ≤ lead_of writing.stage + length fifo.bytes
TaskWaits slack (Format formatting) fifo =
    formatting.counted ≡ false → (lead : ℕ) × HasLead formatting.stage lead × (slack ≤ lead + length fifo.bytes)

abbrev pub PhaseWaits : ℕ → Phase → Fifo → Type 0
PhaseWaits slack (Execute execution) fifo = TaskWaits slack execution.task fifo
PhaseWaits slack _ fifo = Unit {0}
