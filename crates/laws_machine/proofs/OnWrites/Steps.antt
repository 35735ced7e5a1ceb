-- The word time of a write.
use Rattle.std.proofs.Common.{◌≡◌, ◌⊎◌, inl, inr, ℕ, zero, suc, ◌+◌, ◌/◌, ◌%◌, ◌≤◌, Bool, true, false, List, [], ◌∷◌, ◌++◌, length, refl, sym, ◌∙◌, ap, subst, arith, length-append}
use Rattle.laws_machine.proofs.Common.{Chrn, DriveState, is_protected, rate_of, Fifo, Past, heard, wrote, turns_after, IsWriting, WriteStage, IsAddressAt, with_word, Sent, stepped, is_executing, rate_fits, WordTime, Saw, KeptOut, Wrote, Stopped, IsTime, after_time, WritesTask, WriteDoes, MayWriteIn, MayWriteTask, Fdc, Phase, Execute, Task, Writing, led, Scene, IsRecorded, IsScene, head_sent, IsAtDrive, IsAtWindow, Window, false≢true, HasTurned, opens, IsAtStage, MayWrite, IsWritingOn, address_in, few_led, saw_on, wrote_on, stopped_on, still_unprotected, heard_met, outset_of, is_word_due as is_due, WriteTask as Write}
use Rattle.laws_machine.proofs.OnSteps.Outcomes.{closes_not, covered as refused, write_outcome}
use Rattle.laws_machine.proofs.OnOrders.Behind.{IsTimedLed}
use Rattle.fdc_stages.specs.declared.writing.WriteStage.TheVariants as stage

-- ---- stages

-- there are no words, or the gate is open
due_words : (past : Past) (key : Chrn) (deleted : Bool) (handed : List ℕ) (now : WriteStage) → IsWriting past key deleted handed now → is_due now ≡ false → past.words ≡ []
due_words past key deleted handed (stage.Window window) was due = absurd (false≢true (sym due))
due_words past key deleted handed _ was due = was.1.1.0

-- if a word is due, it is the first one or some were written, and an address field was heard
pub record IsDueNow (past : Past) (key : Chrn) (now : WriteStage) : Type 0 where
  pub place : ℕ
  pub address : IsAddressAt past.seen place key
  pub first : opens now ≡ true → past.words ≡ []
  pub later : opens now ≡ false → 1 ≤ length past.words

pub due_now : (past : Past) (key : Chrn) (deleted : Bool) (handed : List ℕ) (now : WriteStage) → IsWriting past key deleted handed now → is_due now ≡ true → IsDueNow past key now
due_now past key deleted handed (stage.Gap zero) (place, ((p, before), unwritten)) due =
    record { place = p; address = before.address; first = λ _. unwritten.0; later = λ no. absurd (false≢true (sym no)) }
due_now past key deleted handed (stage.Window window) (place, ((p, inside), some)) due =
    record { place = p; address = inside.address; first = λ no. absurd (false≢true no); later = λ _. some }
due_now past key deleted handed _ was due = absurd (false≢true due)

pub opens_due : (now : WriteStage) → opens now ≡ true → is_due now ≡ true
opens_due (stage.Gap zero) opening = refl
opens_due _ opening = absurd (false≢true opening)

-- at most one index has passed, or words were heard after the last index
few_turned : (turned : Bool) (turns : List (List ℕ)) → HasTurned turned turns → length turns ≤ 1
few_turned false turns is = let none = ap length is in omega arith
few_turned true turns (first, is) = let one = ap length is in omega arith

few_at : (turns : List (List ℕ)) (seen words : List ℕ) (key : Chrn) (deleted : Bool) (handed : List ℕ) (now : WriteStage) → IsAtStage turns seen words key deleted handed now
    → (length turns ≤ 1) ⊎ (1 ≤ length seen)
few_at turns seen words key deleted handed (stage.Search searching) (search, unwritten) = inl (few_turned searching.turned turns search.indexes)
few_at turns seen words key deleted handed (stage.Gap left) ((p, before), unwritten) = inr (let inside = before.address.sound.inside in omega arith)
few_at turns seen words key deleted handed (stage.Window window) ((p, within), some) = inr (let inside = within.address.sound.inside in omega arith)

-- what is known in execution
pub record IsInExecution (past : Past) : Type 0 where
  pub place : past.place ≡ length past.seen + length past.words
  pub few : (length past.turns ≤ 1) ⊎ (1 ≤ length past.seen)

in_execution : (past : Past) (sent : Sent) (deleted : Bool) (phase : Phase) (asking : Bool) (fifo : Fifo) → MayWriteIn past sent deleted phase asking fifo → is_executing phase ≡ true → IsInExecution past
in_execution past sent deleted (Execute execution) asking fifo was busy = in_task execution.task execution.head_drive execution.steps was
  where
    in_task : (task : Task) (head_drive steps : ℕ) → MayWriteTask past sent deleted head_drive steps task asking fifo → IsInExecution past
    in_task (Write writing) head_drive steps (asks, (handed, on)) =
        record { place = on.writes.0; few = few_at past.turns past.seen past.words writing.wanted.key writing.deleted handed writing.stage on.writes.1 }
    in_task _ head_drive steps was = absurd was
in_execution past sent deleted _ asking fifo was busy = absurd (false≢true busy)

few_heard : (index : Bool) (word lead : ℕ) (late : Past) → length late.turns ≤ 1 → IsInExecution (heard index word (stepped (led lead late))) → length (turns_after index late.turns (with_word late.seen word)) ≤ 1
few_heard true word lead late few is = elim is.few [ inl still ↦ let same = few_led lead late.turns in omega arith | inr some ↦ absurd (omega arith) ]
few_heard false word lead late few is = few

no_index : (index : Bool) (word : ℕ) (past : Past) → IsInExecution (wrote index word (stepped past)) → index ≡ false
no_index true word past is = let place = is.place in let more : length (past.words ++ word ∷ []) ≡ length past.words + 1 = length-append past.words (word ∷ []) in absurd (omega arith)
no_index false word past is = refl

-- ---- the word time

abbrev pub is_stopped : WordTime → Bool
is_stopped Stopped = true
is_stopped _ = false

-- the word time is at the scene's rate, under its head
pub time_here : (scene : Scene) (time : WordTime) (drive after : DriveState) (polls : Fdc) (head_drive : ℕ) → head_drive ≡ scene.sent.head_drive → polls.rate ≡ scene.rate
    → IsTime time polls.rate (head_drive / 4 % 2) drive after → IsTime time scene.rate (head_sent scene.sent) drive after
time_here scene time drive after polls head_drive head rate is =
    subst (λ byte. IsTime time scene.rate (byte / 4 % 2) drive after) head (subst (λ r. IsTime time r (head_drive / 4 % 2) drive after) rate is)

-- the medium isn't protected after words 0000
pub unprotected_led : (scene : Scene) (lead : ℕ) (late : Past) (drive : DriveState) (steps : ℕ) → IsAtDrive scene late true drive → late.steps + lead ≡ steps → (steps ≡ 0 → late.words ≡ [])
    → (1 ≤ lead → scene.disk.protected ≡ false) → (steps ≡ 0 → is_protected drive.medium ≡ true → ⊥) → scene.disk.protected ≡ false
unprotected_led scene zero late drive steps was steps_are fresh guarded guards = still_unprotected (outset_of scene) late drive steps was (omega arith) fresh guards
unprotected_led scene (suc lead) late drive steps was steps_are fresh guarded guards = guarded (omega arith)

module _ (scene : Scene) (deleted : Bool) (lead : ℕ) (late : Past) (drive after : DriveState) (polls between : Fdc) (head_drive steps : ℕ) (writing : Writing) (fifo handed : List ℕ)
    (whole : IsScene scene) (guarded : 1 ≤ lead → scene.disk.protected ≡ false) (was : IsAtWindow scene late true drive)
    (on : IsWritingOn (led lead late) scene.sent deleted head_drive writing steps fifo handed) where
  met : IsDueNow (led lead late) writing.wanted.key writing.stage → IsRecorded scene
  met due =
      let here = address_in lead late.turns late.seen due.place writing.wanted.key due.address in
      heard_met (outset_of scene) late drive.faults was.at.hears here.place writing.wanted.key here.address

  by_time : (time : WordTime) → IsTime time scene.rate (head_sent scene.sent) drive after → WriteDoes time head_drive steps writing polls drive between
      → (steps ≡ 0 → is_protected drive.medium ≡ true → time ≡ Stopped) → MayWrite (after_time time (led lead late)) scene.sent deleted between
      → IsAtWindow scene (after_time time late) (is_executing between.phase) after
  by_time (Saw index word) is (due, does) guards then_is =
      let none = due_words (led lead late) writing.wanted.key writing.deleted handed writing.stage on.writes due in
      let unprotected = unprotected_led scene lead late drive steps was.at on.steps_are on.fresh guarded (λ first covered. false≢true (ap is_stopped (guards first covered))) in
      record {
        at = saw_on (outset_of scene) late drive after index (is_executing between.phase) word whole.disk was.at none unprotected is
            (λ busy. few_heard index word lead late (was.at.works refl).few (in_execution (heard index word (stepped (led lead late))) scene.sent deleted between.phase between.asking between.fifo then_is busy));
        there = was.there;
        unbarred = was.unbarred;
      }
  by_time (KeptOut index word) (other, is) (opening, does) guards then_is =
      let due = due_now (led lead late) writing.wanted.key writing.deleted handed writing.stage on.writes (opens_due writing.stage opening) in
      let medium = was.at.medium.quiet (due.first opening) in
      absurd (false≢true (sym other ∙ (ap (λ m. rate_fits scene.rate (rate_of m)) medium ∙ (met due).fits)))
  by_time (Wrote opened closed index word) is does guards then_is =
      let due = due_now (led lead late) writing.wanted.key writing.deleted handed writing.stage on.writes does.due in
      let unprotected = unprotected_led scene lead late drive steps was.at on.steps_are on.fresh guarded (λ first covered. false≢true (ap is_stopped (guards first covered))) in
      record {
        at = wrote_on (outset_of scene) late drive after opened closed index (is_executing between.phase) word whole.disk (met due).fits was.at unprotected
            (λ yes. due.first (sym does.opened_is ∙ yes)) (λ no. due.later (sym does.opened_is ∙ no)) is
            (closes_not (Wrote opened closed index word) steps drive polls between (write_outcome (Wrote opened closed index word) head_drive steps writing polls drive between does))
            (λ busy. no_index index word (led lead late) (in_execution (wrote index word (stepped (led lead late))) scene.sent deleted between.phase between.asking between.fifo then_is busy));
        there = λ _. (met due).has;
        unbarred = was.unbarred;
      }
  by_time Stopped is does guards then_is = record {
    at = subst (λ b. IsAtDrive scene (stepped late) b after) (sym (ap (λ fdc. is_executing fdc.phase) does.after_is)) (stopped_on (outset_of scene) late drive after whole.disk was.at is);
    there = was.there;
    unbarred = was.unbarred;
  }

-- the word time of a write in execution, after which NW comes of a protected medium alone
pub in_task : (scene : Scene) (deleted : Bool) (lead : ℕ) (late : Past) (drive after : DriveState) (polls between : Fdc) (asking : Bool) (fifo : Fifo) → IsScene scene → polls.rate ≡ scene.rate
    → (1 ≤ lead → scene.disk.protected ≡ false) → IsAtWindow scene late true drive → (task : Task) (head_drive steps : ℕ) → MayWriteTask (led lead late) scene.sent deleted head_drive steps task asking fifo
    → WritesTask task head_drive steps asking fifo polls drive after between → IsTimedLed (Window deleted) scene lead late between after
in_task scene deleted lead late drive after polls between asking fifo whole rate guarded was (Write writing) head_drive steps may writes =
    let (asks, (handed, on)) = may in
    let does = writes.step.does in
    let then_is = writes.writes (led lead late) scene.sent deleted may in
    record {
      time = does.time;
      may = then_is;
      covered = λ is. let (first, covered) = refused does.time steps drive polls between (write_outcome does.time head_drive steps writing polls drive between does.does) is in sym (ap is_protected (was.at.medium.quiet (on.fresh first))) ∙ covered;
      at = by_time scene deleted lead late drive after polls between head_drive steps writing fifo.bytes handed whole guarded was on does.time
          (time_here scene does.time drive after polls head_drive (ap (λ s. s.head_drive) on.sent_is) rate does.is) does.does writes.step.guards then_is;
    }
in_task scene deleted lead late drive after polls between asking fifo whole rate guarded was _ head_drive steps may writes = absurd may
