-- A device step of a data command, by its task.
use Rattle.std.specs.Prelude.{◌≡◌, ◌⊎◌, ◌<◌, ℕ, ◌+◌, false}
use Rattle.fdc_core.specs.Common.{DriveState, Becomes, at_index, FormatNext, WriteNext, no_key, StageHearsIndex, head_of, StageHearsWord, Late, Phase, Execute, Task, ReadId, Read, Write, Format, Formatting, Writing}
use Rattle.fdc_core.specs.Formatting.{IsFormatStep, after_laid}
use Rattle.fdc_core.specs.Listening.{SeesUnder, StepsOn}
use Rattle.fdc_core.specs.State.{finished}
use Rattle.fdc_core.specs.Steps.{let_pass}
use Rattle.fdc_core.specs.Writing.{IsWriteStep, after_next}
use Rattle.fdc_core.specs.declared.controller.Fdc.{Fdc}

-- READ ID and READ DATA: one word is seen and followed
pub record IsListenStep (head_drive steps : ℕ) (task : Task) (old : Fdc) (before after : DriveState) (new : Fdc) : Type 0 where
  pub word : ℕ
  pub sees : SeesUnder old.rate (head_of head_drive) before word after
  pub passes : Becomes (let_pass before) before after
  pub does : StepsOn head_drive steps task (at_index before) word old new

-- a device step of a task, after `steps` others
abbrev pub TaskSteps : Task → ℕ → ℕ → Fdc → DriveState → DriveState → Fdc → Type 0
TaskSteps (ReadId search) head_drive steps old before after new =
    IsListenStep head_drive steps (ReadId search) old before after new
TaskSteps (Read reading) head_drive steps old before after new =
    IsListenStep head_drive steps (Read reading) old before after new
TaskSteps (Write writing) head_drive steps old before after new = IsWriteStep head_drive steps writing old before after new
TaskSteps (Format formatting) head_drive steps old before after new =
    IsFormatStep head_drive steps formatting old before after new

-- a device step of what is in execution
abbrev pub ExecutionSteps : Phase → Fdc → DriveState → DriveState → Fdc → Type 0
ExecutionSteps (Execute execution) old before after new =
    TaskSteps execution.task execution.head_drive execution.steps old before after new
ExecutionSteps _ old before after new = Unit {0}

-- a device step of a write where no drive is selected: words 0000 are heard, and no index
abbrev pub WritesNowhere : ℕ → ℕ → Writing → Fdc → Fdc → Type 0
WritesNowhere head_drive steps writing old new =
    ((steps ≡ 65535) × (new ≡ finished Late head_drive writing.wanted.key old))
    ⊎ ((steps < 65535) × ((next : WriteNext) × StageHearsWord writing false 0 next × (new ≡ after_next head_drive (steps + 1) writing next old)))

abbrev pub FormatsNowhere : ℕ → ℕ → Formatting → Fdc → Fdc → Type 0
FormatsNowhere head_drive steps formatting old new =
    ((steps ≡ 65535) × (new ≡ finished Late head_drive no_key old))
    ⊎ ((steps < 65535) × ((next : FormatNext) × StageHearsIndex formatting false next × (new ≡ after_laid head_drive (steps + 1) formatting next old)))

abbrev pub TaskStepsNowhere : Task → ℕ → ℕ → Fdc → Fdc → Type 0
TaskStepsNowhere (ReadId search) head_drive steps old new = StepsOn head_drive steps (ReadId search) false 0 old new
TaskStepsNowhere (Read reading) head_drive steps old new = StepsOn head_drive steps (Read reading) false 0 old new
TaskStepsNowhere (Write writing) head_drive steps old new = WritesNowhere head_drive steps writing old new
TaskStepsNowhere (Format formatting) head_drive steps old new = FormatsNowhere head_drive steps formatting old new

-- a device step of what is in execution, where no drive is selected
abbrev pub StepsNowhere : Phase → Fdc → Fdc → Type 0
StepsNowhere (Execute execution) old new = TaskStepsNowhere execution.task execution.head_drive execution.steps old new
StepsNowhere _ old new = Unit {0}
