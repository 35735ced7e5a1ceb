-- READ ID and READ DATA, word by word.
use Rattle.std.specs.Prelude.{◌≡◌, ℕ, Bool, false, ◌==◌, [], ◌∷◌, ◌++◌, length, Option, Some, None, if◌then◌else◌}
use Rattle.fdc_core.specs.Common.{room_of, Ending, Done, Overrun, ReadOutcome, ReadStage, Chrn, SearchOutcome, key_after, no_key, ending_of, is_over, over_of, End, Reading, Phase, Execute, Task, ReadId, Read}
use Rattle.fdc_stages.specs.Readings as heard
use Rattle.fdc_stages.specs.declared.reading.ReadHeard.{ReadHeard}
use Rattle.fdc_stages.specs.declared.reading.ReadHeard.TheVariants as answer
use Rattle.fdc_stages.specs.declared.searching.Searched.{Searched}
use Rattle.fdc_stages.specs.declared.searching.Searched.TheVariants as found
use Rattle.fdc_stages.specs.Searches as searched
use Rattle.fdc_core.specs.Dma.{gone_on, asked}
use Rattle.fdc_core.specs.State.{finished}
use Rattle.fdc_core.specs.declared.controller.Fdc.{Fdc}

-- the same command at a stage
abbrev pub at_stage : Reading → ReadStage → Reading
at_stage reading stage = record reading { stage = stage }

-- READ ID after what its search heard
abbrev pub after_searched : ℕ → ℕ → SearchOutcome → Fdc → Fdc
after_searched head_drive steps (searched.On search) old = gone_on head_drive steps (ReadId search) old
after_searched head_drive steps (searched.Met key _) old = finished (Done false) head_drive key old
after_searched head_drive steps (searched.Missed ending) old = finished ending head_drive no_key old

-- READ DATA ends where the field is over and the FIFO is empty, otherwise it goes on
abbrev pub over_or_on : Option Ending → Bool → ℕ → ℕ → Reading → Fdc → Fdc
over_or_on None empty head_drive steps reading old = gone_on head_drive steps (Read reading) old
over_or_on (Some ending) empty head_drive steps reading old =
    if empty then finished ending head_drive (key_after ending reading.wanted.key reading.last_sector) old
    else gone_on head_drive steps (Read reading) old

abbrev pub gone_on_reading : ℕ → ℕ → Reading → Fdc → Fdc
gone_on_reading head_drive steps reading old =
    over_or_on (ending_of reading) (length old.fifo.bytes == 0) head_drive steps reading old

-- the controller with one more byte in the FIFO
abbrev pub pushed : ℕ → Fdc → Fdc
pushed value old = record old { fifo = record old.fifo { bytes = old.fifo.bytes ++ value ∷ [] } }

-- the FIFO is full
abbrev pub is_full : Fdc → Bool
is_full fdc = length fdc.fifo.bytes == room_of fdc.fifo.on

-- a byte of the field comes. After the terminal count it is dropped, and otherwise it may find the FIFO full
abbrev pub byte_taken : ℕ → ℕ → Reading → ℕ → Fdc → Fdc
byte_taken head_drive steps reading value old =
    if reading.counted then gone_on_reading head_drive steps reading old
    else (if is_full old then finished Overrun head_drive reading.wanted.key old
    else gone_on_reading head_drive steps reading (pushed value old))

-- READ DATA after what its stage heard
abbrev pub after_heard : ℕ → ℕ → Reading → ReadOutcome → Fdc → Fdc
after_heard head_drive steps reading (heard.On stage) old =
    gone_on_reading head_drive steps (at_stage reading stage) old
after_heard head_drive steps reading (heard.Byte stage value) old =
    byte_taken head_drive steps (at_stage reading stage) value old
after_heard head_drive steps reading (heard.Ended ending) old =
    finished ending head_drive reading.wanted.key old

-- ---- ---- the same in place, once the stage is the one after the word

-- READ DATA ends where the field is over and the FIFO is empty, otherwise DRQ goes by the FIFO's rule
abbrev pub settled_by : Option End → Bool → Fdc → Fdc
settled_by None empty old = asked old
settled_by (Some over) empty old = if empty then finished over.ending over.head_drive over.key old else asked old

abbrev pub IsTaskTo : Bool → Task → Type 0
IsTaskTo over (Read reading) = over ≡ is_over reading.stage
IsTaskTo over _ = ⊥

-- a READ DATA is in execution, and its field is over or isn't
abbrev pub IsReadingTo : Bool → Phase → Type 0
IsReadingTo over (Execute execution) = IsTaskTo over execution.task
IsReadingTo over _ = ⊥

abbrev pub settled : Fdc → Fdc
settled old = settled_by (over_of old.phase) (length old.fifo.bytes == 0) old

-- how the command ends if the word makes it fail, or if its byte finds the FIFO full before the terminal count
abbrev pub failure_of : Bool → ReadHeard → Fdc → Option Ending
failure_of counted answer.On old = None
failure_of counted (answer.Byte value) old = if counted then None else (if is_full old then Some Overrun else None)
failure_of counted (answer.Ended ending) old = Some ending

-- the byte goes to the FIFO
abbrev pub with_heard : Bool → ReadHeard → Fdc → Fdc
with_heard counted answer.On old = old
with_heard counted (answer.Byte value) old = if counted then old else (if is_full old then old else pushed value old)
with_heard counted (answer.Ended ending) old = old

abbrev pub followed_by : Option Ending → ℕ → Chrn → Fdc → Fdc
followed_by None head_drive key old = settled old
followed_by (Some ending) head_drive key old = finished ending head_drive key old

abbrev pub followed : ℕ → Chrn → Bool → ReadHeard → Fdc → Fdc
followed head_drive key counted heard old =
    followed_by (failure_of counted heard old) head_drive key (with_heard counted heard old)

abbrev pub followed_id : ℕ → Searched → Fdc → Fdc
followed_id head_drive found.On old = asked old
followed_id head_drive (found.Met key) old = finished (Done false) head_drive key old
followed_id head_drive (found.Missed ending) old = finished ending head_drive no_key old
