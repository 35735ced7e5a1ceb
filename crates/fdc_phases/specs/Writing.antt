-- WRITE DATA and WRITE DELETED: what a word makes of their stage.
use Rattle.std.specs.Prelude.{◌≡◌, ◌≤◌, ◌+◌, ◌-◌, ℕ, Bool, true, false, List, Option, Some, None}
use Rattle.fdc_phases.specs.Common.{Chrn, Past, wrote, Ending, WriteStage}
use Rattle.fdc_stages.specs.Windows.{lead_behind}
use Rattle.fdc_stages.specs.Writings.{is_open, opens, is_due, needs_byte, handed_with, heard_where, IsWriting, IsNextWord, HasNext, FailsWell, EndsWell, LeadsOn, lead_of, rest_behind}
use Rattle.fdc_stages.specs.declared.writing.WriteNext.{WriteNext}
use Rattle.fdc_stages.specs.declared.writing.WriteNext.TheVariants.{On, Ended}
use Rattle.fdc_stages.specs.declared.writing.WriteStage.TheVariants.{Gap}
use Rattle.fdc_stages.specs.declared.writing.WriteWord.{WriteWord}
use Rattle.fdc_phases.specs.Answers.{key_after}
use Rattle.fdc_phases.specs.declared.phases.End.{End}
use Rattle.fdc_phases.specs.declared.phases.Phase.{Phase}
use Rattle.fdc_phases.specs.declared.phases.Phase.TheVariants.{Execute}
use Rattle.fdc_phases.specs.declared.phases.Task.TheVariants.{Write}
use Rattle.fdc_phases.specs.declared.transfers.Writing.{Writing}

-- the write is over
abbrev pub is_ended : WriteNext → Bool
is_ended (Ended _) = true
is_ended (On _) = false

-- what a word made of a write: how the command is over, if this is given, else the stage at which it goes on
abbrev pub write_over : WriteStage → Option End → WriteNext
write_over after None = On after
write_over after (Some over) = Ended over.ending

abbrev pub write_end : Ending → ℕ → Writing → End
write_end ending head_drive writing =
    record { ending = ending; head_drive = head_drive; key = key_after ending writing.wanted.key writing.last_sector }

-- a write is in execution, after so many steps
abbrev pub IsWritingAt : ℕ → ℕ → Writing → Phase → Type 0
IsWritingAt head_drive steps writing phase = phase ≡ Execute (record { head_drive = head_drive; steps = steps; task = Write writing })

-- ---- what a stage makes of a word, whatever has passed before

-- a stage whose gate is closed hears a word, and this is what comes of it; a stage whose gate is open stays as it is. Of
-- the words before the window, one passes
abbrev pub StageHearsWord : Writing → Bool → ℕ → WriteNext → Type 0
StageHearsWord writing index word next =
    ((past : Past) (deleted : Bool) (handed : List ℕ) → is_open writing.stage ≡ false → IsWriting past writing.wanted.key deleted handed writing.stage
    → HasNext (heard_where (opens writing.stage) index word past) writing.wanted.key deleted handed next)
    × FailsWell next × LeadsOn (lead_of writing.stage) next
    × (is_open writing.stage ≡ true → next ≡ On writing.stage)
    × ((left : ℕ) → 1 ≤ left → writing.stage ≡ Gap left → index ≡ false → next ≡ On (Gap (left - 1)))

pub record StageWritesWord (writing : Writing) (byte : ℕ) (index : Bool) (given : WriteWord) (next : WriteNext) : Type 0 where
  pub word_is : (past : Past) (handed : List ℕ) → is_due writing.stage ≡ true → IsWriting past writing.wanted.key writing.deleted handed writing.stage
      → IsNextWord past writing.wanted.key writing.deleted (handed_with (needs_byte writing.stage) byte handed) given.word given.rest
  pub goes_on : (past : Past) (key : Chrn) (deleted : Bool) (handed : List ℕ) → past.counted ≡ writing.counted
      → IsNextWord past key deleted handed given.word given.rest → HasNext (wrote index given.word past) key deleted handed next
  pub well : EndsWell next
  pub lead : is_due writing.stage ≡ true → LeadsOn (lead_of writing.stage) next

-- a word of the window was written at this stage, as the last one or not, and this is what comes of it
pub record EndsWord (now : WriteStage) (last index counted : Bool) (next : WriteNext) : Type 0 where
  pub goes_on : (past : Past) (key : Chrn) (deleted : Bool) (handed : List ℕ) (word : ℕ) → is_open now ≡ true → past.counted ≡ counted
      → IsNextWord past key deleted handed word (rest_behind last now) → HasNext (wrote index word past) key deleted handed next
  pub well : EndsWell next
  pub lead : (before : ℕ) → is_open now ≡ true → before ≤ lead_behind (rest_behind last now) + 1 → LeadsOn before next
