-- READ DATA and READ ID: what they heard and what they gave since they began.
use Rattle.std.specs.Prelude.{◌≡◌, ℕ, ◌+◌, Bool, true, false, ◌==◌, List, [], ◌∷◌, ◌++◌, length, None}
use Rattle.fdc_phases.specs.Common.{Chrn, Past, words_heard, IsStart, IsReading, HasRead, Ending, Done, NoCount, Results}
use Rattle.fdc_stages.specs.Searches.{IsSearching}
use Rattle.fdc_stages.specs.Findings.{HasIdentified}
use Rattle.fdc_stages.specs.declared.searching.Search.{Search}
use Rattle.fdc_phases.specs.Answers.{results_of, key_after, no_key}
use Rattle.fdc_phases.specs.declared.answers.Answer.{Answer}
use Rattle.fdc_phases.specs.declared.answers.Answer.TheVariants.{Short, Long}
use Rattle.fdc_phases.specs.declared.phases.Phase.{Phase}
use Rattle.fdc_phases.specs.declared.phases.Phase.TheVariants.{Command, Execute, Result}
use Rattle.fdc_phases.specs.declared.transfers.Reading.{Reading}
use Rattle.fdc_phases.specs.declared.phases.Task.{Task}
use Rattle.fdc_phases.specs.declared.phases.Task.TheVariants.{ReadId, Read}

-- what a command that transfers a sector sent: the head and the drive, the key and the number of the cylinder's last
-- sector
pub record Sent : Type 0 where
  pub head_drive : ℕ
  pub key : Chrn
  pub last_sector : ℕ

-- ---- what passes

-- one device step later
abbrev pub stepped : Past → Past
stepped past = record past { steps = past.steps + 1 }

-- a byte went to memory
abbrev pub gave : ℕ → Past → Past
gave byte past = record past { given = past.given ++ byte ∷ [] }

-- the terminal count came, or didn't
abbrev pub told_in : Bool → Past → Past
told_in true past = record past { counted = true }
told_in false past = past

-- ---- READ DATA

-- what was sent of a reading in execution
abbrev pub sent_of : ℕ → Reading → Sent
sent_of head_drive reading =
    record { head_drive = head_drive; key = reading.wanted.key; last_sector = reading.last_sector }

-- a reading in execution: each device step heard a word. Of the bytes that it decoded (told), `bytes` were given to
-- memory or are in the FIFO; these are all of them, or after the terminal count the first of them
pub record IsUnderway (past : Past) (sent : Sent) (head_drive : ℕ) (reading : Reading) (steps : ℕ) (bytes told : List ℕ) : Type 0 where
  pub sent_is : sent_of head_drive reading ≡ sent
  pub counted_is : past.counted ≡ reading.counted
  pub steps_are : past.steps ≡ steps
  pub heard_are : words_heard past ≡ steps
  pub reads : IsReading past reading.wanted.key told reading.stage
  pub bytes_are : IsStart reading.counted bytes told

-- DRQ is up only where a byte is in the FIFO
abbrev pub AsksRightly : Bool → List ℕ → Type 0
AsksRightly asking bytes = asking ≡ true → (length bytes == 0) ≡ false

abbrev pub MayReadTask : Past → Sent → ℕ → ℕ → Task → Bool → List ℕ → Type 0
MayReadTask past sent head_drive steps (Read reading) asking fifo =
    AsksRightly asking fifo
    × ((told : List ℕ) × IsUnderway past sent head_drive reading steps (past.given ++ fifo) told)
MayReadTask past sent head_drive steps _ asking fifo = ⊥

-- where the field was over before the terminal count, no decoded byte is left that wasn't given
abbrev pub IsSpent : Ending → List ℕ → Type 0
IsSpent NoCount rest = rest ≡ []
IsSpent _ rest = Unit {0}

-- a reading has this ending, and the bytes that were given to memory are the first of those that it decoded
pub record HasEndedAs (past : Past) (key : Chrn) (ending : Ending) (told : List ℕ) : Type 0 where
  pub read : HasRead past key told ending
  pub rest : List ℕ
  pub bytes_are : told ≡ past.given ++ rest
  pub spent : IsSpent ending rest

-- the results of a READ DATA with this ending
abbrev pub results_sent : Ending → Sent → Results
results_sent ending sent = results_of ending sent.head_drive (key_after ending sent.key sent.last_sector)

abbrev pub MayReadAnswer : Past → Sent → Answer → Type 0
MayReadAnswer past sent (Long ending results _) =
    (results ≡ results_sent ending sent) × ((told : List ℕ) × HasEndedAs past sent.key ending told)
MayReadAnswer past sent (Short _ _) = ⊥

abbrev pub MayReadIn : Past → Sent → Phase → Bool → List ℕ → Type 0
MayReadIn past sent (Execute execution) asking fifo =
    MayReadTask past sent execution.head_drive execution.steps execution.task asking fifo
MayReadIn past sent (Result answer) asking fifo = MayReadAnswer past sent answer
MayReadIn past sent Command asking fifo = ⊥

-- ---- READ ID

-- a READ ID in execution: each device step heard a word
pub record IsIdentifying (past : Past) (sent head_drive steps : ℕ) (search : Search) : Type 0 where
  pub sent_is : head_drive ≡ sent
  pub steps_are : past.steps ≡ steps
  pub heard_are : words_heard past ≡ steps
  pub searches : IsSearching past None search

abbrev pub MayReadIdTask : Past → ℕ → ℕ → ℕ → Task → Type 0
MayReadIdTask past sent head_drive steps (ReadId search) = IsIdentifying past sent head_drive steps search
MayReadIdTask past sent head_drive steps _ = ⊥

-- the key in the results: the one that was met, 00 00 00 00 where the command failed
abbrev pub key_met : Ending → Chrn → Chrn
key_met (Done _) key = key
key_met _ key = no_key

-- the results are those of this ending, and what passed is its cause; where IC is 00, an address field has their key
abbrev pub IdentifiedAs : Past → ℕ → Ending → Results → Type 0
IdentifiedAs past sent ending results =
    (results ≡ results_of ending sent (key_met ending results.key)) × HasIdentified past results.key ending

abbrev pub MayReadIdAnswer : Past → ℕ → Answer → Type 0
MayReadIdAnswer past sent (Long ending results _) = IdentifiedAs past sent ending results
MayReadIdAnswer past sent (Short _ _) = ⊥

abbrev pub MayReadIdIn : Past → ℕ → Phase → Type 0
MayReadIdIn past sent (Execute execution) =
    MayReadIdTask past sent execution.head_drive execution.steps execution.task
MayReadIdIn past sent (Result answer) = MayReadIdAnswer past sent answer
MayReadIdIn past sent Command = ⊥
