-- The word time of a FORMAT.
use Rattle.std.proofs.Common.{◌≡◌, ℕ, ◌+◌, ◌≤◌, Bool, true, false, List, [], ◌∷◌, ◌++◌, length, refl, sym, ◌∙◌, ap, subst, arith, length-append}
use Rattle.laws_machine.proofs.Common.{DriveState, is_protected, rate_of, Fifo, Past, heard, wrote, turns_after, Numbers, is_next, is_first, IsAtPart, FormatPart, Await, Due, Lay, Barred, FormatDoes, stepped, is_executing, rate_fits, WordTime, Saw, KeptOut, Wrote, Stopped, IsHeardTime, IsTime, after_time, with_word, WritesTask, MayFormatIn, MayFormatTask, Fdc, Phase, Execute, Task, Format, Formatting, led, Scene, IsScene, head_sent, IsAtDrive, Track, false≢true, kept_out, MayFormat, IsFormattingOn, few_led, kept_on, saw_on, wrote_on, stopped_on, outset_of}
use Rattle.laws_machine.proofs.OnWrites.Steps.{is_stopped, time_here, unprotected_led}
use Rattle.laws_machine.proofs.OnSteps.Outcomes.{closes_not, covered as refused, format_outcome}
use Rattle.laws_machine.proofs.OnOrders.Behind.{IsTimedLed}

-- ---- parts

-- there are no words, or the gate is open
due_words : (turns : List (List ℕ)) (seen : List ℕ) (place : ℕ) (words : List ℕ) (barred : Bool) (part : FormatPart) → IsAtPart turns seen place words barred part → is_next part ≡ false → words ≡ []
due_words turns seen place words barred Due was due = absurd (false≢true (sym due))
due_words turns seen place words barred Lay was due = absurd (false≢true (sym due))
due_words turns seen place words barred _ was due = was.1

-- if a word is due, it is the first one, or some were written
pub record IsDueNow (words : List ℕ) (part : FormatPart) : Type 0 where
  pub first : is_first part ≡ true → words ≡ []
  pub later : is_first part ≡ false → 1 ≤ length words

due_now : (turns : List (List ℕ)) (seen : List ℕ) (place : ℕ) (words : List ℕ) (barred : Bool) (part : FormatPart) → IsAtPart turns seen place words barred part → is_next part ≡ true → IsDueNow words part
due_now turns seen place words barred Due was due = record { first = λ _. was.2; later = λ no. absurd (false≢true (sym no)) }
due_now turns seen place words barred Lay was due = record { first = λ no. absurd (false≢true no); later = λ _. was.2 }
due_now turns seen place words barred _ was due = absurd (false≢true due)

first_words : (turns : List (List ℕ)) (seen : List ℕ) (place : ℕ) (words : List ℕ) (barred : Bool) (part : FormatPart) → IsAtPart turns seen place words barred part → is_first part ≡ true → words ≡ []
first_words turns seen place words barred Due was first = was.2
first_words turns seen place words barred _ was first = absurd (false≢true first)

-- what is known in execution
pub record IsInExecution (past : Past) : Type 0 where
  pub place : 1 ≤ length past.words → past.place ≡ length past.words
  pub few : length past.turns ≤ 1

one_long : (turns : List (List ℕ)) (first : List ℕ) → turns ≡ first ∷ [] → length turns ≤ 1
one_long turns first is = let one = ap length is in omega arith

no_words : (words : List ℕ) → words ≡ [] → 1 ≤ length words → ⊥
no_words words none some = let long = ap length none in omega arith

at_part : (past : Past) (part : FormatPart) → IsAtPart past.turns past.seen past.place past.words past.barred part → IsInExecution past
at_part past Await was = record { place = λ some. absurd (no_words past.words was.1 some); few = let none = ap length was.0 in omega arith }
at_part past Due was = record { place = λ some. absurd (no_words past.words was.2 some); few = one_long past.turns was.0.first was.0.turns_are }
at_part past Lay was = record { place = λ _. was.1; few = one_long past.turns was.0.first was.0.turns_are }
at_part past Barred was = record { place = λ some. absurd (no_words past.words was.1 some); few = one_long past.turns was.0.0 was.0.1 }

in_execution : (past : Past) (sent : ℕ) (numbers : Numbers) (phase : Phase) (asking : Bool) (fifo : Fifo) → MayFormatIn past sent numbers phase asking fifo → is_executing phase ≡ true → IsInExecution past
in_execution past sent numbers (Execute execution) asking fifo was busy = in_task execution.task execution.head_drive execution.steps was
  where
    in_task : (task : Task) (head_drive steps : ℕ) → MayFormatTask past sent numbers head_drive steps task asking fifo → IsInExecution past
    in_task (Format formatting) head_drive steps (asks, (handed, on)) = at_part past formatting.stage.part on.formats.0
    in_task _ head_drive steps was = absurd was
in_execution past sent numbers _ asking fifo was busy = absurd (false≢true busy)

no_index : (index : Bool) (word : ℕ) (past : Past) → IsInExecution (wrote index word (stepped past)) → index ≡ false
no_index true word past is =
    let more : length (past.words ++ word ∷ []) ≡ length past.words + 1 = length-append past.words (word ∷ []) in
    let place = is.place (omega arith) in absurd (omega arith)
no_index false word past is = refl

-- ---- the word time

few_heard : (index : Bool) (word lead : ℕ) (late : Past) → length late.turns ≤ 1 → IsInExecution (heard index word (stepped (led lead late))) → length (turns_after index late.turns (with_word late.seen word)) ≤ 1
few_heard true word lead late few is = let one = is.few in let same = few_led lead late.turns in omega arith
few_heard false word lead late few is = few

module _ (scene : Scene) (numbers : Numbers) (lead : ℕ) (late : Past) (drive after : DriveState) (polls between : Fdc) (head_drive steps : ℕ) (formatting : Formatting) (fifo handed : List ℕ)
    (whole : IsScene scene) (guarded : 1 ≤ lead → scene.disk.protected ≡ false) (was : IsAtDrive scene late true drive)
    (on : IsFormattingOn (led lead late) scene.sent.head_drive numbers head_drive formatting steps fifo handed) where
  abbrev past : Past
  past = led lead late

  saw : (index : Bool) (word : ℕ) → IsHeardTime index word scene.rate (head_sent scene.sent) drive after → late.words ≡ [] → scene.disk.protected ≡ false
      → (is_executing between.phase ≡ true → IsInExecution (heard index word (stepped past))) → IsAtDrive scene (heard index word (stepped late)) (is_executing between.phase) after
  saw index word is none unprotected then_is =
      saw_on (outset_of scene) late drive after index (is_executing between.phase) word whole.disk was none unprotected is
      (λ busy. few_heard index word lead late (was.works refl).few (then_is busy))

  by_time : (time : WordTime) → IsTime time scene.rate (head_sent scene.sent) drive after → FormatDoes time head_drive steps formatting polls drive between
      → (steps ≡ 0 → is_protected drive.medium ≡ true → time ≡ Stopped) → MayFormat (after_time time past) scene.sent.head_drive numbers between
      → IsAtDrive scene (after_time time late) (is_executing between.phase) after
  by_time (Saw index word) is (due, does) guards then_is =
      let none = due_words past.turns past.seen past.place past.words past.barred formatting.stage.part on.formats.0 due in
      let unprotected = unprotected_led scene lead late drive steps was on.steps_are on.fresh guarded (λ first covered. false≢true (ap is_stopped (guards first covered))) in
      saw index word is none unprotected
      (λ busy. in_execution (heard index word (stepped past)) scene.sent.head_drive numbers between.phase between.asking between.fifo then_is busy)
  by_time (KeptOut index word) (other, is) (opening, does) guards then_is =
      let none = first_words past.turns past.seen past.place past.words past.barred formatting.stage.part on.formats.0 opening in
      let unprotected = unprotected_led scene lead late drive steps was on.steps_are on.fresh guarded (λ first covered. false≢true (ap is_stopped (guards first covered))) in
      let misfit : rate_fits scene.rate scene.disk.rate ≡ false = sym (ap (λ m. rate_fits scene.rate (rate_of m)) (was.medium.quiet none)) ∙ other in
      kept_on (outset_of scene) (heard index word (stepped late)) (is_executing between.phase) after
      (saw index word is none unprotected (λ busy. same_execution (in_execution (kept_out index word (stepped past)) scene.sent.head_drive numbers between.phase between.asking between.fifo then_is busy))) misfit
    where
      same_execution : IsInExecution (kept_out index word (stepped past)) → IsInExecution (heard index word (stepped past))
      same_execution is = record { place = is.place; few = is.few }
  by_time (Wrote opened closed index word) is does guards then_is =
      let due = due_now past.turns past.seen past.place past.words past.barred formatting.stage.part on.formats.0 does.due in
      let unprotected = unprotected_led scene lead late drive steps was on.steps_are on.fresh guarded (λ first covered. false≢true (ap is_stopped (guards first covered))) in
      wrote_on (outset_of scene) late drive after opened closed index (is_executing between.phase) word whole.disk (fits_now opened is.fits (λ yes. due.first (sym does.opened_is ∙ yes)) (λ no. due.later (sym does.opened_is ∙ no)))
      was unprotected (λ yes. due.first (sym does.opened_is ∙ yes)) (λ no. due.later (sym does.opened_is ∙ no)) is
      (closes_not (Wrote opened closed index word) steps drive polls between (format_outcome (Wrote opened closed index word) head_drive steps formatting polls drive between does))
      (λ busy. no_index index word past (in_execution (wrote index word (stepped past)) scene.sent.head_drive numbers between.phase between.asking between.fifo then_is busy))
    where
      fits_now : (opened : Bool) → (opened ≡ true → rate_fits scene.rate (rate_of drive.medium) ≡ true) → (opened ≡ true → late.words ≡ []) → (opened ≡ false → 1 ≤ length late.words) → rate_fits scene.rate scene.disk.rate ≡ true
      fits_now true fits first later = sym (ap (λ m. rate_fits scene.rate (rate_of m)) (was.medium.quiet (first refl))) ∙ fits refl
      fits_now false fits first later = was.fits (later refl)
  by_time Stopped is does guards then_is =
      subst (λ b. IsAtDrive scene (stepped late) b after) (sym (ap (λ fdc. is_executing fdc.phase) does.after_is)) (stopped_on (outset_of scene) late drive after whole.disk was is)

-- the word time of a FORMAT in execution, after which NW comes of a protected medium alone
pub in_task : (scene : Scene) (numbers : Numbers) (lead : ℕ) (late : Past) (drive after : DriveState) (polls between : Fdc) (asking : Bool) (fifo : Fifo) → IsScene scene → polls.rate ≡ scene.rate
    → (1 ≤ lead → scene.disk.protected ≡ false) → IsAtDrive scene late true drive → (task : Task) (head_drive steps : ℕ) → MayFormatTask (led lead late) scene.sent.head_drive numbers head_drive steps task asking fifo
    → WritesTask task head_drive steps asking fifo polls drive after between → IsTimedLed (Track numbers) scene lead late between after
in_task scene numbers lead late drive after polls between asking fifo whole rate guarded was (Format formatting) head_drive steps may writes =
    let (asks, (handed, on)) = may in
    let does = writes.step.does in
    let then_is = writes.formats (led lead late) scene.sent.head_drive numbers may in
    record {
      time = does.time;
      may = then_is;
      covered = λ is. let (first, covered) = refused does.time steps drive polls between (format_outcome does.time head_drive steps formatting polls drive between does.does) is in sym (ap is_protected (was.medium.quiet (on.fresh first))) ∙ covered;
      at = by_time scene numbers lead late drive after polls between head_drive steps formatting fifo.bytes handed whole guarded was on does.time
          (time_here scene does.time drive after polls head_drive on.sent_is rate does.is) does.does writes.step.guards then_is;
    }
in_task scene numbers lead late drive after polls between asking fifo whole rate guarded was _ head_drive steps may writes = absurd may
