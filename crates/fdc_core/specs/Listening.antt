-- Device steps: the word that passes, and what is then known of a command that listens.
use Rattle.std.specs.Prelude.{◌≡◌, ◌⊎◌, ◌<◌, ℕ, ◌+◌, Bool, true, false, None, List}
use Rattle.fdc_core.specs.Common.{DriveState, Reads, rate_of, Chrn, Past, heard, IsSearching, HasSearched, MissesWell, IsReading, HasHeard, FailsWell, KeepsMark, Late, ReadOutcome, ReadStage, Search, SearchOutcome, Sent, MayReadIn, MayReadIdIn, stepped, head_of, is_overrun, is_listening, key_as_sent, rate_fits, seen_of, Phase, Execute, Reading, Task, ReadId, Read, DataRate}
use Rattle.fdc_stages.specs.Readings as given
use Rattle.fdc_core.specs.Heard.{MayRead, MayReadId}
use Rattle.fdc_core.specs.Reading.{after_searched, after_heard, is_full}
use Rattle.fdc_core.specs.State.{finished}
use Rattle.fdc_core.specs.declared.controller.Fdc.{Fdc}

-- ---- the word

-- the word is what the controller, at its rate, sees of the drive's word under this head
abbrev pub SeesUnder : DataRate → ℕ → DriveState → ℕ → DriveState → Type 0
SeesUnder rate head drive word after =
    (raw : ℕ) × Reads head drive raw after × (word ≡ seen_of (rate_fits rate (rate_of drive.medium)) raw)

abbrev pub SeesTask : Bool → ℕ → DataRate → DriveState → ℕ → DriveState → Type 0
SeesTask true head rate drive word after = SeesUnder rate head drive word after
SeesTask false head rate drive word after = Unit {0}

abbrev pub SeesWord : Phase → DataRate → DriveState → ℕ → DriveState → Type 0
SeesWord (Execute execution) rate drive word after =
    SeesTask (is_listening execution.task) (head_of execution.head_drive) rate drive word after
SeesWord _ rate drive word after = Unit {0}

-- the history after a device step. A word counts only where the controller was executing a command
abbrev pub after_step : Bool → Bool → ℕ → Past → Past
after_step true index word past = heard index word (stepped past)
after_step false index word past = past

-- a data command is in execution
abbrev pub is_executing : Phase → Bool
is_executing (Execute _) = true
is_executing _ = false

-- ---- ---- what a stage makes of the word, whatever was heard before

abbrev pub SearchHears : Bool → ℕ → Search → SearchOutcome → Type 0
SearchHears index word search searched =
    ((past : Past) → IsSearching past None search → HasSearched index (heard index word past) None searched)
    × MissesWell searched

abbrev pub StageHears : Chrn → Bool → ℕ → ReadStage → ReadOutcome → Type 0
StageHears key index word stage after =
    ((past : Past) (told : List ℕ) → IsReading past key told stage → HasHeard (heard index word past) key told after)
    × FailsWell after × KeepsMark stage after

-- a device step of a data command that listens, by its task
abbrev pub Hears : ℕ → ℕ → Task → Bool → ℕ → Fdc → Fdc → Type 0
Hears head_drive steps (ReadId search) index word old new =
    (searched : SearchOutcome) × SearchHears index word search searched × (new ≡ after_searched head_drive steps searched old)
Hears head_drive steps (Read reading) index word old new =
    (after : ReadOutcome) × StageHears reading.wanted.key index word reading.stage after
    × (new ≡ after_heard head_drive steps reading after old)
Hears head_drive steps _ index word old new = Unit {0}

-- the step of a data command isn't its last
abbrev pub HasStepsLeft : Phase → Type 0
HasStepsLeft (Execute execution) = execution.steps < 65535
HasStepsLeft _ = Unit {0}

abbrev pub HearsIn : Phase → Bool → ℕ → Fdc → Fdc → Type 0
HearsIn (Execute execution) index word old new = Hears execution.head_drive (execution.steps + 1) execution.task index word old new
HearsIn _ index word old new = Unit {0}

-- the last step ends a command, whatever the word is. Each other step counts
abbrev pub StepsOn : ℕ → ℕ → Task → Bool → ℕ → Fdc → Fdc → Type 0
StepsOn head_drive steps task index word old new =
    ((steps ≡ 65535) × (new ≡ finished Late head_drive (key_as_sent task) old))
    ⊎ ((steps < 65535) × Hears head_drive (steps + 1) task index word old new)

abbrev pub ExecutesTask : Bool → ℕ → ℕ → Task → Bool → ℕ → Fdc → Fdc → Type 0
ExecutesTask true head_drive steps task index word old new = StepsOn head_drive steps task index word old new
ExecutesTask false head_drive steps task index word old new = Unit {0}

abbrev pub ExecutesIn : Phase → Bool → ℕ → Fdc → Fdc → Type 0
ExecutesIn (Execute execution) index word old new =
    ExecutesTask (is_listening execution.task) execution.head_drive execution.steps execution.task index word old new
ExecutesIn _ index word old new = Unit {0}

-- a byte of the field came before the terminal count, and found the FIFO full
pub record FindsFull (reading : Reading) (index : Bool) (word : ℕ) (old : Fdc) : Type 0 where
  pub stage : ReadStage
  pub value : ℕ
  pub comes : StageHears reading.wanted.key index word reading.stage (given.Byte stage value)
  pub uncounted : reading.counted ≡ false
  pub full : is_full old ≡ true

-- OR comes only where a byte found the FIFO full before the terminal count
abbrev pub OverrunsTask : Task → Bool → ℕ → Fdc → Fdc → Type 0
OverrunsTask (Read reading) index word old new = is_overrun new.phase ≡ true → FindsFull reading index word old
OverrunsTask (ReadId _) index word old new = is_overrun new.phase ≡ false
OverrunsTask _ index word old new = Unit {0}

abbrev pub OverrunsIn : Phase → Bool → ℕ → Fdc → Fdc → Type 0
OverrunsIn (Execute execution) index word old new = OverrunsTask execution.task index word old new
OverrunsIn _ index word old new = Unit {0}

-- ---- device steps

-- a word time in this phase, once the poll is done: what the controller does, and what is then known of a READ DATA and
-- of a READ ID
pub record Follows (phase : Phase) (polls : Fdc) (index : Bool) (word : ℕ) (old new : Fdc) : Type 0 where
  pub executes : ExecutesIn phase index word polls new
  pub overruns : OverrunsIn phase index word polls new
  pub reads : (past : Past) (sent : Sent) → MayReadIn past sent phase old.asking old.fifo.bytes → MayRead (after_step (is_executing phase) index word past) sent new
  pub identifies : (past : Past) (sent : ℕ) → MayReadIdIn past sent phase → MayReadId (after_step (is_executing phase) index word past) sent new

-- a device step: one word of the drive is seen and followed
pub record StepHears (phase : Phase) (polls : Fdc) (index : Bool) (old : Fdc) (before after : DriveState) (new : Fdc) : Type 0 where
  pub word : ℕ
  pub sees : SeesWord phase old.rate before word after
  pub follows : Follows phase polls index word old new

abbrev pub Listens : Fdc → Bool → Fdc → DriveState → DriveState → Fdc → Type 0
Listens polls index old before after new = StepHears old.phase polls index old before after new

-- a device step where no drive is selected: words 0000, and no index
abbrev pub ListensToNone : Fdc → Fdc → Fdc → Type 0
ListensToNone polls old new = Follows old.phase polls false 0 old new
