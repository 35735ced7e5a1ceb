-- What the controller is doing.
use Rattle.std.specs.Prelude.{ℕ, ◌/◌, ◌%◌, Bool, true, false, Option, Some, None, if◌then◌else◌}
use Rattle.fdc_phases.specs.Common.{Chrn, Ending, Done, BadCheck, Overrun, NoCount, WriteStage, mark_at}
use Rattle.fdc_stages.specs.declared.reading.ReadStage.{ReadStage}
use Rattle.fdc_stages.specs.declared.reading.ReadStage.TheVariants.{Over}
use Rattle.fdc_phases.specs.Answers.{no_key, key_after}
use Rattle.fdc_phases.specs.declared.phases.End.{End}
use Rattle.fdc_phases.specs.declared.answers.Answer.{Answer}
use Rattle.fdc_phases.specs.declared.answers.Answer.TheVariants.{Long}
use Rattle.fdc_phases.specs.declared.phases.Phase.{Phase}
use Rattle.fdc_phases.specs.declared.phases.Phase.TheVariants.{Execute, Result}
use Rattle.fdc_phases.specs.declared.phases.Task.{Task}
use Rattle.fdc_phases.specs.declared.phases.Task.TheVariants.{ReadId, Read, Write, Format}
use Rattle.fdc_phases.specs.declared.transfers.Reading.{Reading}
use Rattle.fdc_phases.specs.declared.transfers.Writing.{Writing}
use Rattle.fdc_phases.specs.declared.transfers.Formatting.{Formatting}
use Rattle.fdc_stages.specs.declared.formatting.FormatStage.{FormatStage}

-- READ DATA is the task
abbrev pub is_read : Task → Bool
is_read (Read _) = true
is_read _ = false

-- a READ DATA is in execution
abbrev pub is_reading : Phase → Bool
is_reading (Execute execution) = is_read execution.task
is_reading _ = false

-- the head, bit 2 of the byte that the command sent
abbrev pub head_of : ℕ → ℕ
head_of head_drive = head_drive / 4 % 2

-- the key in the results of a failure: the key as it was sent, 00 00 00 00 where none was sent
abbrev pub key_as_sent : Task → Chrn
key_as_sent (ReadId _) = no_key
key_as_sent (Read reading) = reading.wanted.key
key_as_sent (Write writing) = writing.wanted.key
key_as_sent (Format _) = no_key

-- a write at another stage; below, a write once the terminal count came
abbrev pub write_at : Writing → WriteStage → Writing
write_at writing stage = record writing { stage = stage }

abbrev pub write_told : Writing → Writing
write_told writing = record writing { counted = true }

-- a FORMAT at another stage; below, a FORMAT once the terminal count came
abbrev pub format_at : Formatting → FormatStage → Formatting
format_at formatting stage = record formatting { stage = stage }

abbrev pub format_told : Formatting → Formatting
format_told formatting = record formatting { counted = true }

-- a reading once the terminal count came
abbrev pub told : Reading → Reading
told reading = record reading { counted = true }

-- the field is over
abbrev pub is_over : ReadStage → Bool
is_over (Over _ _) = true
is_over _ = false

-- how a field that is over ends the command: a wrong CRC is reported whether or not the terminal count came
abbrev pub ending_over : Bool → Bool → Bool → Ending
ending_over good counted deleted = if good then (if counted then Done deleted else NoCount) else BadCheck

-- how the command ends, if its field is over
abbrev pub ending_at : ReadStage → Bool → Option Ending
ending_at (Over deleted good) counted = Some (ending_over good counted deleted)
ending_at _ counted = None

abbrev pub ending_of : Reading → Option Ending
ending_of reading = ending_at reading.stage reading.counted

-- READ ID and READ DATA only listen
abbrev pub is_listening : Task → Bool
is_listening (ReadId _) = true
is_listening (Read _) = true
is_listening _ = false

-- bytes are moved by DMA
abbrev pub moves_bytes : Task → Bool
moves_bytes (ReadId _) = false
moves_bytes _ = true

abbrev pub is_moving : Phase → Bool
is_moving (Execute execution) = moves_bytes execution.task
is_moving _ = false

-- the results have the bit OR
abbrev pub overran : Ending → Bool
overran Overrun = true
overran _ = false

abbrev pub answers_overrun : Answer → Bool
answers_overrun (Long ending _ _) = overran ending
answers_overrun _ = false

abbrev pub is_overrun : Phase → Bool
is_overrun (Result answer) = answers_overrun answer
is_overrun _ = false

-- how READ DATA ends if its field is over, and the key in its results
abbrev pub over_with : Option Ending → ℕ → Reading → Option End
over_with None head_drive reading = None
over_with (Some ending) head_drive reading =
    Some (record { ending = ending; head_drive = head_drive; key = key_after ending reading.wanted.key reading.last_sector })

abbrev pub over_at : Task → ℕ → Option End
over_at (Read reading) head_drive = over_with (ending_of reading) head_drive reading
over_at _ head_drive = None

abbrev pub over_of : Phase → Option End
over_of (Execute execution) = over_at execution.task execution.head_drive
over_of _ = None

-- how the data command ended, if the host reads its results
abbrev pub ending_of_phase : Phase → Option Ending
ending_of_phase (Result (Long ending _ _)) = Some ending
ending_of_phase _ = None

-- the mark of the data field that a READ DATA reads, once the mark is met; true is F8
abbrev pub mark_in : Task → Option Bool
mark_in (Read reading) = mark_at reading.stage
mark_in _ = None

abbrev pub mark_of_phase : Phase → Option Bool
mark_of_phase (Execute execution) = mark_in execution.task
mark_of_phase _ = None
