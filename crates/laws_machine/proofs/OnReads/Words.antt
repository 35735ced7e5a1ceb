-- The word time of a READ DATA that ends soon.
use Rattle.std.proofs.Common.{◌≡◌, ◌⊎◌, inl, inr, ℕ, ◌+◌, ◌*◌, ◌≤◌, ◌==◌, Bool, true, false, List, [], ◌∷◌, ◌++◌, length, refl, sym, ◌∙◌, ap, subst, arith, length-append}
use Rattle.laws_machine.proofs.Common.{Chrn, content_size, room_of, Past, heard, words_heard, words_in, ReadOutcome, Ending, Late, ReadStage, Sent, MayReadIn, MayReadTask, stepped, is_executing, ExecutesIn, PacedIn, IsPaced, is_hearing, is_over, after_heard, gone_on_reading, at_stage, pushed, is_full, RestsIn, phase_counted, Fdc, Phase, Command, Execute, Result, Reading, Task, IsHeardFrom, lingers, task_lingers, steps_taken, most_steps, cond_both, eqb-false, false≢true, not_from_false, HasFewTurns, gone_on, StageHears, ending_over, same_stage, ReadTask as Read, ends_late, is_late, IsDisk, DriveState, Becomes, at_index, SeesUnder, let_pass, Scene, head_sent, track_met, IsHearing, hearing_since, over_since, length_heard, outset_of}
use Rattle.fdc_stages.specs.Readings.{IsReading, IsFailure}
use Rattle.fdc_stages.proofs.Lawful.{over_full, reading_told, told_most}
use Rattle.fdc_stages.specs.Readings as given
use Rattle.fdc_stages.specs.declared.reading.ReadStage.TheVariants as stages

-- ---- words heard

-- with one index at most, there are no more than two revolutions
pub words_few : (track : List ℕ) (from : ℕ) (turns : List (List ℕ)) (seen : List ℕ) → IsHeardFrom track from turns seen → length turns ≤ 1
    → words_in turns seen ≤ 2 * length track
words_few track from [] seen heard few = let inside = heard.now.inside in omega arith
words_few track from (turn ∷ []) seen heard few = let inside = heard.now.inside in let first = heard.over.0.inside in omega arith
words_few track from (turn ∷ second ∷ turns) seen heard few = absurd (omega arith)

-- ---- what a word leaves

-- a READ DATA is in execution at a stage, after so many steps; its FIFO is empty if the terminal count came
pub record IsReadingAt (steps : ℕ) (stage : ReadStage) (fdc : Fdc) : Type 0 where
  pub head_drive : ℕ
  pub reading : Reading
  pub phase : fdc.phase ≡ Execute (record { head_drive = head_drive; steps = steps; task = Read (at_stage reading stage) })
  pub drained : reading.counted ≡ true → fdc.fifo.bytes ≡ []

-- the command was in this phase, and goes on. If the field is over, bytes wait; if it was over before, they are those
-- from before.
pub record GoesOn (phase : Phase) (old new : Fdc) : Type 0 where
  pub busy : is_executing phase ≡ true
  pub stage : ReadStage
  pub at : IsReadingAt (steps_taken phase + 1) stage new
  pub room : length new.fifo.bytes ≤ room_of new.fifo.on
  pub some : is_over stage ≡ true → (length new.fifo.bytes == 0) ≡ false
  pub same : lingers phase ≡ true → new.fifo.bytes ≡ old.fifo.bytes

-- the command is over, and not for want of steps
pub record HasEnded (new : Fdc) : Type 0 where
  pub idle : is_executing new.phase ≡ false
  pub calm : is_late new.phase ≡ false

abbrev pub WordOn : Phase → Fdc → Fdc → Type 0
WordOn phase old new = HasEnded new ⊎ GoesOn phase old new

over_late : (good counted deleted : Bool) → ends_late (ending_over good counted deleted) ≡ false
over_late true true deleted = refl
over_late true false deleted = refl
over_late false counted deleted = refl

fails_late : (ending : Ending) → IsFailure ending → ends_late ending ≡ false
fails_late Late is = absurd is
fails_late _ is = refl

room_on : (bytes : List ℕ) (value room : ℕ) → length bytes ≤ room → (length bytes == room) ≡ false → length (bytes ++ value ∷ []) ≤ room
room_on bytes value room few free = let long = length-append bytes (value ∷ []) in let unlike = eqb-false (length bytes) room free in omega arith

abbrev reads_on : ℕ → ℕ → Reading → Phase
reads_on head_drive steps reading = Execute (record { head_drive = head_drive; steps = steps; task = Read reading })

module _ (head_drive steps : ℕ) (reading : Reading) (start old : Fdc) (drained : reading.counted ≡ true → old.fifo.bytes ≡ []) (room : length old.fifo.bytes ≤ room_of old.fifo.on)
    (same : is_over reading.stage ≡ true → old.fifo.bytes ≡ start.fifo.bytes) where
  on : (stage : ReadStage) → (is_over stage ≡ true → (length old.fifo.bytes == 0) ≡ false)
      → WordOn (reads_on head_drive steps reading) start (gone_on head_drive (steps + 1) (Read (at_stage reading stage)) old)
  on stage some = inr (record {
    busy = refl;
    stage = stage;
    at = record { head_drive = head_drive; reading = reading; phase = refl; drained = drained };
    room = room;
    some = some;
    same = same;
  })

  gone : (stage : ReadStage) → WordOn (reads_on head_drive steps reading) start (gone_on_reading head_drive (steps + 1) (at_stage reading stage) old)
  gone (stages.Over deleted good) = cond_both (length old.fifo.bytes == 0) _ _ (WordOn (reads_on head_drive steps reading) start)
      (λ none. inl (record { idle = refl; calm = over_late good reading.counted deleted })) (λ some. on (stages.Over deleted good) (λ _. some))
  gone stage = on stage (λ over. absurd (false≢true over))

heard_word : (head_drive steps : ℕ) (reading : Reading) (old : Fdc) (drained : reading.counted ≡ true → old.fifo.bytes ≡ []) (room : length old.fifo.bytes ≤ room_of old.fifo.on)
    (index : Bool) (word : ℕ) (after : ReadOutcome) → StageHears reading.wanted.key index word reading.stage after
    → ((stage : ReadStage) (value : ℕ) → StageHears reading.wanted.key index word reading.stage (given.Byte stage value) → is_over reading.stage ≡ true → ⊥)
    → WordOn (reads_on head_drive steps reading) old (after_heard head_drive (steps + 1) reading after old)
heard_word head_drive steps reading old drained room index word (given.On stage) hears never = gone head_drive steps reading old old drained room (λ over. refl) stage
heard_word head_drive steps reading old drained room index word (given.Ended ending) hears never = inl (record { idle = refl; calm = fails_late ending hears.1 })
heard_word head_drive steps reading old drained room index word (given.Byte stage value) hears never =
    cond_both reading.counted _ _ (WordOn (reads_on head_drive steps reading) old) (λ counted. gone head_drive steps reading old old drained room (λ over. refl) stage)
    (λ uncounted. cond_both (is_full old) _ _ (WordOn (reads_on head_drive steps reading) old) (λ full. inl (record { idle = refl; calm = refl }))
    (λ free. gone head_drive steps reading old (pushed value old) (λ counted. absurd (false≢true (sym uncounted ∙ counted))) (room_on old.fifo.bytes value (room_of old.fifo.on) room free)
    (λ over. absurd (never stage value hears over)) stage))

-- after the field no further byte is reported
over_length : (past : Past) (key : Chrn) (told : List ℕ) (stage : ReadStage) → is_over stage ≡ true → IsReading past key told stage
    → length told ≡ content_size key.n
over_length past key told (stages.Over deleted good) over reads = over_full past key told deleted good reads
over_length past key told _ over reads = absurd (false≢true over)

no_byte : (past : Past) (key : Chrn) (told : List ℕ) (index : Bool) (word : ℕ) (before : ReadStage) → IsReading past key told before
    → (stage : ReadStage) (value : ℕ) → StageHears key index word before (given.Byte stage value) → is_over before ≡ true → ⊥
no_byte past key told index word before reads stage value hears over =
    let now = hears.0 (stepped past) told (same_stage past.given (past.steps + 1) past.counted past key told before reads) in
    let later = heard index word (stepped past) in
    let most = told_most later key (told ++ value ∷ []) (reading_told later key (told ++ value ∷ []) stage now) in
    let all = over_length past key told before over reads in
    let more : length (told ++ value ∷ []) ≡ length told + 1 = length-append told (value ∷ []) in
    absurd (omega arith)

-- what the FIFO holds before the word
pub record IsHeld (phase : Phase) (fdc : Fdc) : Type 0 where
  pub drained : phase_counted phase ≡ true → fdc.fifo.bytes ≡ []
  pub room : length fdc.fifo.bytes ≤ room_of fdc.fifo.on

-- while its field wasn't over, the command heard each word, of two revolutions at most
few_task : (words : ℕ) (past : Past) (sent : Sent) (head_drive steps : ℕ) (task : Task) (asking : Bool) (bytes : List ℕ)
    → MayReadTask past sent head_drive steps task asking bytes
    → IsPaced past steps (is_hearing task) → (HasFewTurns past → words_heard past ≤ 2 * words) → task_lingers task ≡ false → steps ≤ 2 * words
few_task words past sent head_drive steps (Read reading) asking bytes was pace turns hearing =
    let all = turns (pace.few (not_from_false (is_over reading.stage) hearing)) in let are = pace.heard_are in omega arith
few_task words past sent head_drive steps _ asking bytes was pace turns hearing = absurd was

pub few_in : (words : ℕ) (past : Past) (sent : Sent) (phase : Phase) (asking : Bool) (bytes : List ℕ) → MayReadIn past sent phase asking bytes
    → PacedIn past phase → (HasFewTurns past → words_heard past ≤ 2 * words) → lingers phase ≡ false → steps_taken phase ≤ 2 * words
few_in words past sent (Execute execution) asking bytes was pace turns hearing = few_task words past sent execution.head_drive execution.steps execution.task asking bytes was pace turns hearing
few_in words past sent _ asking bytes was pace turns hearing = omega arith

pub word_on : (past : Past) (sent : Sent) (phase : Phase) (asking : Bool) (bytes : List ℕ) (index : Bool) (word : ℕ) (polls new : Fdc) (track0 : Bool)
    → MayReadIn past sent phase asking bytes → ExecutesIn phase index word polls new → RestsIn phase track0 polls new → polls.phase ≡ phase
    → steps_taken phase ≤ most_steps → (is_executing phase ≡ true → IsHeld phase polls) → is_late phase ≡ false → WordOn phase polls new
word_on past sent Command asking bytes index word polls new track0 was executes rests same few held calm = absurd was
word_on past sent (Result answer) asking bytes index word polls new track0 was executes rests same few held calm =
    let is = ap (λ fdc. fdc.phase) rests ∙ same in inl (record { idle = ap is_executing is; calm = ap is_late is ∙ calm })
word_on past sent (Execute execution) asking bytes index word polls new track0 was executes rests same few held calm =
    in_task execution.task was executes (held refl)
  where
    in_task : (task : Task) → MayReadTask past sent execution.head_drive execution.steps task asking bytes
        → ExecutesIn (Execute (record { head_drive = execution.head_drive; steps = execution.steps; task = task })) index word polls new
        → IsHeld (Execute (record { head_drive = execution.head_drive; steps = execution.steps; task = task })) polls
        → WordOn (Execute (record { head_drive = execution.head_drive; steps = execution.steps; task = task })) polls new
    in_task (Read reading) (asks, (told, underway)) does held = elim does [
      | inl last ↦ let all = last.0 in absurd (omega arith)
      | inr on ↦ let (after, hears, is) = on.1 in
          subst (WordOn (reads_on execution.head_drive execution.steps reading) polls) (sym is)
          (heard_word execution.head_drive execution.steps reading polls held.drained held.room index word after hears (no_byte past reading.wanted.key told index word reading.stage underway.reads))
    ]
    in_task _ is does held = absurd is

-- ---- the words of a scene's track, as they are heard

pub length-met : (scene : Scene) → IsDisk scene.disk → length (track_met scene) ≡ scene.disk.words_per_track
length-met scene valid = length_heard (outset_of scene) valid

-- a device step of the command
pub hearing_on : (scene : Scene) (past : Past) (drive after : DriveState) (word : ℕ) (executes : Bool) → IsDisk scene.disk
    → IsHearing scene past true drive → SeesUnder scene.rate (head_sent scene.sent) drive word after → Becomes (let_pass drive) drive after
    → IsHearing scene (heard (at_index drive) word (stepped past)) executes after
hearing_on scene = hearing_since (outset_of scene)

-- a device step once the command is over
pub hearing_over : (scene : Scene) (past : Past) (drive after : DriveState) → IsHearing scene past false drive → drive.faults ≤ after.faults
    → IsHearing scene past false after
hearing_over scene = over_since (outset_of scene)
