-- What a word that is heard makes of a command that writes.
use Rattle.std.specs.Prelude.{◌≡◌, ℕ, ◌+◌, Bool}
use Rattle.fdc_core.specs.Common.{FormatNext, WriteNext, StageHearsIndex, StageHearsWord, Phase, Execute, Task, ReadId, Read, Write, Format}
use Rattle.fdc_core.specs.Formatting.{after_laid}
use Rattle.fdc_core.specs.Writing.{after_next}
use Rattle.fdc_core.specs.declared.controller.Fdc.{Fdc}

abbrev pub HearsToWriteTask : ℕ → ℕ → Task → Bool → ℕ → Fdc → Fdc → Type 0
HearsToWriteTask head_drive steps (ReadId _) index word old new = Unit {0}
HearsToWriteTask head_drive steps (Read _) index word old new = Unit {0}
HearsToWriteTask head_drive steps (Write writing) index word old new =
    (next : WriteNext) × StageHearsWord writing index word next × (new ≡ after_next head_drive steps writing next old)
HearsToWriteTask head_drive steps (Format formatting) index word old new =
    (next : FormatNext) × StageHearsIndex formatting index next × (new ≡ after_laid head_drive steps formatting next old)

-- a write or a FORMAT in execution hears a word
abbrev pub HearsToWrite : Phase → Bool → ℕ → Fdc → Fdc → Type 0
HearsToWrite (Execute execution) index word old new =
    HearsToWriteTask execution.head_drive (execution.steps + 1) execution.task index word old new
HearsToWrite _ index word old new = Unit {0}
