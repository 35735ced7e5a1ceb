-- WRITE DATA, WRITE DELETED and FORMAT TRACK: what they heard, took and wrote since they began.
use Rattle.std.specs.Prelude.{◌≡◌, ◌⊎◌, ℕ, Bool, true, false, ◌==◌, List, [], ◌∷◌, ◌++◌, length, replicate}
use Rattle.fdc_phases.specs.Common.{Chrn, Fifo, room_of, Past, Ending, Numbers, IsFormatting, HasFormatted, IsResultKey, IsWriting, HasWritten}
use Rattle.fdc_phases.specs.Answers.{results_of}
use Rattle.fdc_phases.specs.Heard.{Sent, results_sent}
use Rattle.fdc_phases.specs.declared.answers.Answer.{Answer}
use Rattle.fdc_phases.specs.declared.answers.Answer.TheVariants.{Short, Long}
use Rattle.fdc_phases.specs.declared.phases.Phase.{Phase}
use Rattle.fdc_phases.specs.declared.phases.Phase.TheVariants.{Command, Execute, Result}
use Rattle.fdc_phases.specs.declared.phases.Task.{Task}
use Rattle.fdc_phases.specs.declared.phases.Task.TheVariants.{Write, Format}
use Rattle.fdc_phases.specs.declared.transfers.Formatting.{Formatting}
use Rattle.fdc_phases.specs.declared.transfers.Writing.{Writing}

-- ---- bytes from memory

-- a byte was taken from memory
abbrev pub took : ℕ → Past → Past
took byte past = record past { taken = past.taken ++ byte ∷ [] }

-- the bytes that were handed in, and then those in the FIFO, are the bytes that were taken from memory; or the terminal
-- count came, and all bytes that were taken were handed in, and then so many bytes 00
abbrev pub IsHanded : Bool → List ℕ → List ℕ → List ℕ → Type 0
IsHanded counted taken handed fifo =
    (handed ++ fifo ≡ taken) ⊎ ((counted ≡ true) × (fifo ≡ []) × ((zeros : ℕ) × (handed ≡ taken ++ replicate zeros 0)))

-- the bytes that were handed in are the first of those that were taken from memory; or the terminal count came, and
-- they are all of those, and then so many bytes 00
abbrev pub IsContent : Bool → List ℕ → List ℕ → Type 0
IsContent counted taken handed =
    ((rest : List ℕ) × (taken ≡ handed ++ rest)) ⊎ ((counted ≡ true) × ((zeros : ℕ) × (handed ≡ taken ++ replicate zeros 0)))

-- DRQ is up only before the terminal count, and where there is room
abbrev pub AsksWithRoom : Bool → Bool → Fifo → Type 0
AsksWithRoom counted asking fifo =
    asking ≡ true → (counted ≡ false) × ((length fifo.bytes == room_of fifo.on) ≡ false)

-- ---- WRITE DATA and WRITE DELETED

-- what was sent of a write in execution
abbrev pub write_sent : ℕ → Writing → Sent
write_sent head_drive writing =
    record { head_drive = head_drive; key = writing.wanted.key; last_sector = writing.last_sector }

-- a write in execution, and the content that was handed in
pub record IsWritingOn (past : Past) (sent : Sent) (deleted : Bool) (head_drive : ℕ) (writing : Writing) (steps : ℕ) (fifo handed : List ℕ) : Type 0 where
  pub sent_is : write_sent head_drive writing ≡ sent
  pub deleted_is : writing.deleted ≡ deleted
  pub counted_is : past.counted ≡ writing.counted
  pub steps_are : past.steps ≡ steps
  pub fresh : steps ≡ 0 → past.words ≡ []
  pub writes : IsWriting past writing.wanted.key writing.deleted handed writing.stage
  pub handed_is : IsHanded writing.counted past.taken handed fifo

abbrev pub MayWriteTask : Past → Sent → Bool → ℕ → ℕ → Task → Bool → Fifo → Type 0
MayWriteTask past sent deleted head_drive steps (Write writing) asking fifo =
    AsksWithRoom writing.counted asking fifo
    × ((handed : List ℕ) × IsWritingOn past sent deleted head_drive writing steps fifo.bytes handed)
MayWriteTask past sent deleted head_drive steps _ asking fifo = ⊥

-- a write has this ending, and this content was handed in
pub record HasWrittenAs (past : Past) (key : Chrn) (deleted : Bool) (ending : Ending) (handed : List ℕ) : Type 0 where
  pub written : HasWritten past key deleted handed ending
  pub content : IsContent past.counted past.taken handed

abbrev pub MayWriteAnswer : Past → Sent → Bool → Bool → Answer → Type 0
MayWriteAnswer past sent deleted asking (Long ending results _) =
    (asking ≡ false) × (results ≡ results_sent ending sent)
    × ((handed : List ℕ) × HasWrittenAs past sent.key deleted ending handed)
MayWriteAnswer past sent deleted asking (Short _ _) = ⊥

abbrev pub MayWriteIn : Past → Sent → Bool → Phase → Bool → Fifo → Type 0
MayWriteIn past sent deleted (Execute execution) asking fifo =
    MayWriteTask past sent deleted execution.head_drive execution.steps execution.task asking fifo
MayWriteIn past sent deleted (Result answer) asking fifo = MayWriteAnswer past sent deleted asking answer
MayWriteIn past sent deleted Command asking fifo = ⊥

-- ---- FORMAT TRACK

-- a FORMAT in execution, and the bytes of keys that were handed in
pub record IsFormattingOn (past : Past) (sent : ℕ) (numbers : Numbers) (head_drive : ℕ) (formatting : Formatting) (steps : ℕ) (fifo handed : List ℕ) : Type 0 where
  pub sent_is : head_drive ≡ sent
  pub counted_is : past.counted ≡ formatting.counted
  pub steps_are : past.steps ≡ steps
  pub fresh : steps ≡ 0 → past.words ≡ []
  pub formats : IsFormatting past numbers handed formatting.stage
  pub handed_is : IsHanded formatting.counted past.taken handed fifo

abbrev pub MayFormatTask : Past → ℕ → Numbers → ℕ → ℕ → Task → Bool → Fifo → Type 0
MayFormatTask past sent numbers head_drive steps (Format formatting) asking fifo =
    AsksWithRoom formatting.counted asking fifo
    × ((handed : List ℕ) × IsFormattingOn past sent numbers head_drive formatting steps fifo.bytes handed)
MayFormatTask past sent numbers head_drive steps _ asking fifo = ⊥

-- a FORMAT has this ending, these bytes of keys were handed in, and this key is in its results
pub record HasFormattedAs (past : Past) (numbers : Numbers) (ending : Ending) (key : Chrn) (handed : List ℕ) : Type 0 where
  pub formatted : HasFormatted past numbers handed ending
  pub result : IsResultKey numbers handed ending key
  pub content : IsContent past.counted past.taken handed

abbrev pub MayFormatAnswer : Past → ℕ → Numbers → Bool → Answer → Type 0
MayFormatAnswer past sent numbers asking (Long ending results _) =
    (asking ≡ false) × (results ≡ results_of ending sent results.key)
    × ((handed : List ℕ) × HasFormattedAs past numbers ending results.key handed)
MayFormatAnswer past sent numbers asking (Short _ _) = ⊥

abbrev pub MayFormatIn : Past → ℕ → Numbers → Phase → Bool → Fifo → Type 0
MayFormatIn past sent numbers (Execute execution) asking fifo =
    MayFormatTask past sent numbers execution.head_drive execution.steps execution.task asking fifo
MayFormatIn past sent numbers (Result answer) asking fifo = MayFormatAnswer past sent numbers asking answer
MayFormatIn past sent numbers Command asking fifo = ⊥
