-- The bytes of a phase that is saved.
use Rattle.std.specs.Prelude.{ℕ, List, ◌∷◌}
use Rattle.saved_state.specs.Saved.{spelled_byte, spelled_flag, spelled_key, spelled_option, spelled_word}
use Rattle.fdc_commands.specs.Saving.{spelled_results}
use Rattle.fdc_stages.specs.Saving.{spelled_ending, spelled_search, spelled_read}
use Rattle.fdc_stages.specs.WritingSaving.{spelled_write, spelled_format}
use Rattle.fdc_phases.specs.declared.sized_key.SizedKey.{SizedKey}
use Rattle.fdc_phases.specs.declared.rates.DataRate.{DataRate}
use Rattle.fdc_phases.specs.declared.rates.DataRate.TheVariants.{Kbit500, Kbit300, Kbit250, Mbit1}
use Rattle.fdc_phases.specs.declared.answers.Answer.{Answer}
use Rattle.fdc_phases.specs.declared.answers.Answer.TheVariants.{Short, Long}
use Rattle.fdc_phases.specs.declared.transfers.Reading.{Reading}
use Rattle.fdc_phases.specs.declared.transfers.Writing.{Writing}
use Rattle.fdc_phases.specs.declared.transfers.Formatting.{Formatting}
use Rattle.fdc_phases.specs.declared.phases.Task.{Task}
use Rattle.fdc_phases.specs.declared.phases.Task.TheVariants.{ReadId, Read, Write, Format}
use Rattle.fdc_phases.specs.declared.phases.Execution.{Execution}
use Rattle.fdc_phases.specs.declared.phases.Phase.{Phase}
use Rattle.fdc_phases.specs.declared.phases.Phase.TheVariants.{Command, Execute, Result}

-- the key of a command
unfoldable pub spelled_sized_key : SizedKey → List ℕ → List ℕ
spelled_sized_key sized rest = spelled_key sized.key rest

-- a data rate
unfoldable pub spelled_rate : DataRate → List ℕ → List ℕ
spelled_rate Kbit500 rest = 0 ∷ rest
spelled_rate Kbit300 rest = 1 ∷ rest
spelled_rate Kbit250 rest = 2 ∷ rest
spelled_rate Mbit1 rest = 3 ∷ rest

-- the result bytes that are still to be read
unfoldable pub spelled_answer : Answer → List ℕ → List ℕ
spelled_answer (Short next last) rest = 0 ∷ spelled_byte next (spelled_option spelled_byte last rest)
spelled_answer (Long ending results read) rest =
    1 ∷ spelled_ending ending (spelled_results results (spelled_byte read rest))

-- a READ DATA
unfoldable pub spelled_reading : Reading → List ℕ → List ℕ
spelled_reading reading rest =
    spelled_sized_key reading.wanted (spelled_byte reading.last_sector (spelled_flag reading.counted
    (spelled_read reading.stage rest)))

-- a WRITE DATA or WRITE DELETED
unfoldable pub spelled_writing : Writing → List ℕ → List ℕ
spelled_writing writing rest =
    spelled_sized_key writing.wanted (spelled_flag writing.deleted (spelled_byte writing.last_sector
    (spelled_flag writing.counted (spelled_write writing.stage rest))))

-- a FORMAT TRACK
unfoldable pub spelled_formatting : Formatting → List ℕ → List ℕ
spelled_formatting formatting rest = spelled_flag formatting.counted (spelled_format formatting.stage rest)

-- what a data command does
unfoldable pub spelled_task : Task → List ℕ → List ℕ
spelled_task (ReadId search) rest = 0 ∷ spelled_search search rest
spelled_task (Read reading) rest = 1 ∷ spelled_reading reading rest
spelled_task (Write writing) rest = 2 ∷ spelled_writing writing rest
spelled_task (Format formatting) rest = 3 ∷ spelled_formatting formatting rest

-- a data command in execution
unfoldable pub spelled_execution : Execution → List ℕ → List ℕ
spelled_execution execution rest =
    spelled_byte execution.head_drive (spelled_word execution.steps (spelled_task execution.task rest))

-- a phase
unfoldable pub spelled_phase : Phase → List ℕ → List ℕ
spelled_phase Command rest = 0 ∷ rest
spelled_phase (Execute execution) rest = 1 ∷ spelled_execution execution rest
spelled_phase (Result answer) rest = 2 ∷ spelled_answer answer rest
