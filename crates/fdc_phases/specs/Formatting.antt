-- FORMAT TRACK: what a word makes of its stage.
use Rattle.std.specs.Prelude.{◌≡◌, ℕ, ◌-◌, Bool, true, false, List}
use Rattle.fdc_phases.specs.Common.{Past, wrote, HasLead, LeadsOn, handed_with, heard_where}
use Rattle.fdc_stages.specs.Formats.{Numbers, is_open, opens, is_due, Takes, IsFormatting, IsNextLaid, HasNext, FailsWell, EndsWell}
use Rattle.fdc_stages.specs.declared.formatting.FormatNext.{FormatNext}
use Rattle.fdc_stages.specs.declared.formatting.FormatNext.TheVariants.{On, Ended}
use Rattle.fdc_stages.specs.declared.formatting.FormatWord.{FormatWord}
use Rattle.fdc_phases.specs.declared.phases.Phase.{Phase}
use Rattle.fdc_phases.specs.declared.phases.Phase.TheVariants.{Execute}
use Rattle.fdc_phases.specs.declared.phases.Task.TheVariants.{Format}
use Rattle.fdc_phases.specs.declared.transfers.Formatting.{Formatting}

-- the FORMAT is over
abbrev pub is_ended : FormatNext → Bool
is_ended (Ended _ _) = true
is_ended (On _) = false

-- a FORMAT is in execution, after so many steps
abbrev pub IsFormattingAt : ℕ → ℕ → Formatting → Phase → Type 0
IsFormattingAt head_drive steps formatting phase =
    phase ≡ Execute (record { head_drive = head_drive; steps = steps; task = Format formatting })

-- ---- what a stage makes of a word, whatever has passed before

-- a stage whose gate is closed hears a word, and this is what comes of it; a stage whose gate is open stays as it is
abbrev pub StageHearsIndex : Formatting → Bool → FormatNext → Type 0
StageHearsIndex formatting index next =
    ((past : Past) (numbers : Numbers) (handed : List ℕ) (word : ℕ) → is_open formatting.stage ≡ false → IsFormatting past numbers handed formatting.stage
    → HasNext (heard_where (opens formatting.stage) index word past) numbers handed next)
    × FailsWell next × ((lead : ℕ) → HasLead formatting.stage lead → LeadsOn lead next)
    × (is_open formatting.stage ≡ true → next ≡ On formatting.stage)

pub record StageLaysWord (formatting : Formatting) (takes : Bool) (byte : ℕ) (index : Bool) (given : FormatWord) (next : FormatNext) : Type 0 where
  pub word_is : (past : Past) (numbers : Numbers) (handed : List ℕ) → is_due formatting.stage ≡ true → IsFormatting past numbers handed formatting.stage → Takes formatting.stage takes
      → IsNextLaid past numbers (handed_with takes byte handed) given.word given.stream given.key
  pub goes_on : (past : Past) (numbers : Numbers) (handed : List ℕ)
      → IsNextLaid past numbers handed given.word given.stream given.key → HasNext (wrote index given.word past) numbers handed next
  pub well : EndsWell next
  pub lead : (lead : ℕ) → HasLead formatting.stage lead → LeadsOn (lead - 1) next
