-- The stages of a command that writes, as word times pass.
use Rattle.std.proofs.Common.{◌≡◌, ◌⊎◌, inl, inr, ℕ, zero, ◌+◌, ◌≤◌, Bool, true, false, List, [], ◌∷◌, ◌++◌, length, refl, sym, ap, arith, length-append}
use Rattle.laws_chip.proofs.Common.{false≢true, Chrn, IsAddressAt, Fifo, Past, wrote, HasTurned, IsAtStage, IsWriting, opens, WriteNext, WriteStage, Sent, stepped, MayWriteIn, MayWriteTask, Phase, Execute, Result, Task, Writing, is_executing, WordTime, Stopped, after_next, Fdc, Taking as Command, WriteTask as Write, stages_is_due as is_due}
use Rattle.fdc_phases.specs.Writing.{is_ended}
use Rattle.fdc_stages.specs.declared.writing.WriteNext.TheVariants as next
use Rattle.fdc_stages.specs.declared.writing.WriteStage.TheVariants as stage

-- ---- stages

-- where no word is due, none was written
pub due_words : (past : Past) (key : Chrn) (deleted : Bool) (handed : List ℕ) (now : WriteStage) → IsWriting past key deleted handed now → is_due now ≡ false → past.words ≡ []
due_words past key deleted handed (stage.Window window) was due = absurd (false≢true (sym due))
due_words past key deleted handed _ was due = was.1.1.0

-- where a word is due, it is the first or some were written, and an address field was heard
pub record IsDueNow (past : Past) (key : Chrn) (now : WriteStage) : Type 0 where
  pub place : ℕ
  pub address : IsAddressAt past.seen place key
  pub first : opens now ≡ true → past.words ≡ []
  pub later : opens now ≡ false → 1 ≤ length past.words

pub due_now : (past : Past) (key : Chrn) (deleted : Bool) (handed : List ℕ) (now : WriteStage) → IsWriting past key deleted handed now → is_due now ≡ true → IsDueNow past key now
due_now past key deleted handed (stage.Gap zero) (place, ((p, before), unwritten)) due =
    record { place = p; address = before.address; first = λ _. unwritten.0; later = λ no. absurd (false≢true (sym no)) }
due_now past key deleted handed (stage.Window window) (place, ((p, inside), some)) due =
    record { place = p; address = inside.address; first = λ no. absurd (false≢true no); later = λ _. some }
due_now past key deleted handed _ was due = absurd (false≢true due)

pub opens_due : (now : WriteStage) → opens now ≡ true → is_due now ≡ true
opens_due (stage.Gap zero) opening = refl
opens_due _ opening = absurd (false≢true opening)

-- at most one index has passed
few_turned : (turned : Bool) (turns : List (List ℕ)) → HasTurned turned turns → length turns ≤ 1
few_turned false turns is = let none = ap length is in omega arith
few_turned true turns (first, is) = let one = ap length is in omega arith

few_at : (turns : List (List ℕ)) (seen words : List ℕ) (key : Chrn) (deleted : Bool) (handed : List ℕ) (now : WriteStage) → IsAtStage turns seen words key deleted handed now
    → (length turns ≤ 1) ⊎ (1 ≤ length seen)
few_at turns seen words key deleted handed (stage.Search searching) (search, unwritten) = inl (few_turned searching.turned turns search.indexes)
few_at turns seen words key deleted handed (stage.Gap left) ((p, before), unwritten) = inr (let inside = before.address.sound.inside in omega arith)
few_at turns seen words key deleted handed (stage.Window window) ((p, within), some) = inr (let inside = within.address.sound.inside in omega arith)

-- what is known in execution
pub record IsInExecution (past : Past) : Type 0 where
  pub place : past.place ≡ length past.seen + length past.words
  pub few : (length past.turns ≤ 1) ⊎ (1 ≤ length past.seen)

pub in_execution : (past : Past) (sent : Sent) (deleted : Bool) (phase : Phase) (asking : Bool) (fifo : Fifo) → MayWriteIn past sent deleted phase asking fifo → is_executing phase ≡ true → IsInExecution past
in_execution past sent deleted Command asking fifo was busy = absurd was
in_execution past sent deleted (Result answer) asking fifo was busy = absurd (false≢true busy)
in_execution past sent deleted (Execute execution) asking fifo was busy = in_task execution.task execution.head_drive execution.steps was
  where
    in_task : (task : Task) (head_drive steps : ℕ) → MayWriteTask past sent deleted head_drive steps task asking fifo → IsInExecution past
    in_task (Write writing) head_drive steps (asks, (handed, on)) =
        record { place = on.writes.0; few = few_at past.turns past.seen past.words writing.wanted.key writing.deleted handed writing.stage on.writes.1 }
    in_task _ head_drive steps was = absurd was

pub no_index : (index : Bool) (word : ℕ) (past : Past) → IsInExecution (wrote index word (stepped past)) → index ≡ false
no_index true word past is = let place = is.place in let more : length (past.words ++ word ∷ []) ≡ length past.words + 1 = length-append past.words (word ∷ []) in absurd (omega arith)
no_index false word past is = refl

abbrev pub is_stopped : WordTime → Bool
is_stopped Stopped = true
is_stopped _ = false

pub ended_rests : (head_drive steps : ℕ) (writing : Writing) (after : WriteNext) (old : Fdc) → is_executing (after_next head_drive steps writing after old).phase ≡ true → is_ended after ≡ false
ended_rests head_drive steps writing (next.On now) old busy = refl
ended_rests head_drive steps writing (next.Ended ending) old busy = absurd (false≢true busy)
