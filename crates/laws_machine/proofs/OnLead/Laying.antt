-- Commands that write, whatever the drive's speed was when they began.
use Rattle.std.proofs.Common.{◌≡◌, ◌⊎◌, inl, inr, ℕ, zero, suc, ◌+◌, ◌*◌, ◌≤◌, Bool, true, false, List, [], ◌∷◌, length, refl, sym, ◌∙◌, ap, subst, arith}
use Rattle.laws_machine.proofs.Common.{Chrn, DriveState, is_protected, Fifo, Past, heard, Numbers, is_first, is_next, IsAtPart, IsWriting, FormatPart, Await, Due, Lay, Barred, WriteStage, FormatDoes, stepped, is_executing, let_pass, WordTime, Saw, KeptOut, Wrote, Stopped, IsTime, after_time, WritesIn, WritesTask, WriteDoes, MayWriteTask, MayFormatTask, Fdc, Execution, Execute, Task, Formatting, Writing, turns_led, turn_led, led, IsSpinning, IsUnheard, IsLed, Laid, Window, Track, Write, MayLayIn, LaysOn, Scene, IsScene, head_sent, IsAtDrive, false_from_ne_true, false≢true, address_in, few_led, time_led, no_index, hears_none, turning_on, outset_of, is_word_due as is_due, Works, Chips, WarmsUp, Order, Identify, Read, IsDoneBy, Steady, drive_in, Board, controller_of, Inputs, Outputs, IsTurningIn, IsGuarded, CanBegin, Leaves, StandsStill, new_past, slow_or_fast, CanWarm}
use Rattle.laws_machine.proofs.OnLead.Spinning.{nothing_heard, turning_of, led_at, led_over, spun, led_less, brief_led, led_bytes, listening_led}
use Rattle.laws_machine.proofs.OnOrders.Behind.{IsTimed, Laying, laid_on, KeepsOn, IsDoing}
use Rattle.laws_machine.proofs.OnOrders.Words.{laying, timed_led, laid_timed}
use Rattle.laws_machine.proofs.OnWrites.Steps.{is_stopped, due_now, opens_due, time_here}
use Rattle.laws_machine.proofs.OnSteps.Outcomes.{covered as refused, format_outcome, over_stopped, write_outcome}
use Rattle.laws_machine.proofs.OnQuiet.Steps.{calmly}
use Rattle.laws_machine.proofs.OnOrders.Steps.{goes_on, still_goes}
use Rattle.laws_machine.proofs.OnOrders.Accesses.{inputs_go, begins_on, outputs_go}
use Rattle.fdc_phases.specs.declared.phases.Task.TheVariants as task
use Rattle.laws_machine.proofs.OnReads.IdWords as ids
use Rattle.laws_machine.proofs.OnReads.Steps as reads
use Rattle.fdc_phases.specs.declared.phases.Phase.TheVariants as phase

-- ---- a word time in which the medium spins up

-- the step that ends the command is counted
stepped_over : (scene : Scene) (late : Past) (drive : DriveState) → late.steps + 1 ≤ 2 * scene.disk.words_per_track → IsAtDrive scene late false drive
    → IsAtDrive scene (stepped late) false drive
stepped_over scene late drive early was = record {
  hears = was.hears;
  medium = was.medium;
  unprotected = was.unprotected;
  fits = was.fits;
  barred = was.barred;
  early = early;
  inside = was.inside;
  index = was.index;
  works = λ no. absurd (false≢true no);
}

-- a word is heard, or the command is stopped
abbrev pub WritesNothing : WordTime → Type 0
WritesNothing (Saw index word) = Unit {0}
WritesNothing Stopped = Unit {0}
WritesNothing _ = ⊥

module _ (laid : Laid) (scene : Scene) (lead : ℕ) (late : Past) (drive after : DriveState) (executes : Bool) (whole : IsScene scene) (guarded : 1 ≤ lead → scene.disk.protected ≡ false)
    (none : IsUnheard late) (spins : IsSpinning scene lead drive) where
  stops_spinning : after ≡ let_pass drive → IsLed (Write laid) scene (stepped (led lead late)) false after
  stops_spinning is =
      let turning = turning_on (outset_of scene) lead drive spins after (calmly drive after is) in
      let steps = ap (λ (p : Past). p.steps) none in
      let room = turning.inside in
      let since = spins.since in
      let slow = spins.slow in
      record {
        lead = lead;
        late = stepped late;
        past_is = time_led lead late Stopped;
        short = omega arith;
        guarded = guarded;
        drive_is = inr (laid_on laid scene late (stepped late) false false after after (stepped_over scene late after (omega arith)) refl refl
            (nothing_heard (Write laid) scene late false after whole none turning (λ busy. absurd (false≢true busy))));
      }

  -- nothing is written before the medium is at speed
  by_time : (time : WordTime) → WritesNothing time → IsTime time scene.rate (head_sent scene.sent) drive after
      → ((time ≡ Stopped → ⊥) → scene.disk.protected ≡ false) → (time ≡ Stopped → executes ≡ false)
      → IsLed (Write laid) scene (after_time time (led lead late)) executes after
  by_time (Saw index word) hears is unprotected over =
      let calm : heard index word (stepped (led lead late)) ≡ heard false 0 (stepped (led lead late)) =
      ap (λ i. heard i word (stepped (led lead late))) (is.index_is ∙ no_index (outset_of scene) lead drive spins)
      ∙ ap (λ w. heard false w (stepped (led lead late))) (hears_none (outset_of scene) lead drive spins after word is.sees) in
      subst (λ p. IsLed (Write laid) scene p executes after) (sym calm)
      (spun (Write laid) scene lead late executes drive after whole none spins is.passes (λ _. unprotected (λ no. false≢true (ap is_stopped no))))
  by_time Stopped hears is unprotected over = subst (λ b. IsLed (Write laid) scene (stepped (led lead late)) b after) (sym (over refl)) (stops_spinning is)
  by_time _ hears is unprotected over = absurd hears

-- the medium isn't protected if the first step didn't stop the command
unprotected_spun : (scene : Scene) (lead : ℕ) (late : Past) (drive : DriveState) (steps : ℕ) (time : WordTime) → IsUnheard late
    → IsSpinning scene lead drive → (1 ≤ lead → scene.disk.protected ≡ false)
    → late.steps + lead ≡ steps → (steps ≡ 0 → is_protected drive.medium ≡ true → time ≡ Stopped) → (time ≡ Stopped → ⊥) → scene.disk.protected ≡ false
unprotected_spun scene (suc lead) late drive steps time none spins guarded steps_are guards goes = guarded (omega arith)
unprotected_spun scene zero late drive steps time none spins guarded steps_are guards goes = false_from_ne_true scene.disk.protected (λ covered. let first = ap (λ (p : Past). p.steps) none in goes (guards (omega arith) (ap is_protected spins.turning.medium ∙ covered)))

-- ---- of a window

no_due : (lead : ℕ) (late : Past) (key : Chrn) (deleted : Bool) (handed : List ℕ) (now : WriteStage) → IsUnheard late
    → IsWriting (led lead late) key deleted handed now → is_due now ≡ true → ⊥
no_due lead late key deleted handed now none was due =
    let is = due_now (led lead late) key deleted handed now was due in
    let here = address_in lead late.turns late.seen is.place key is.address in
    let inside = here.address.sound.inside in
    let nothing = ap (λ (p : Past). length p.seen) none in
    omega arith

hears_window : (lead : ℕ) (late : Past) (head_drive steps : ℕ) (writing : Writing) (polls between : Fdc) (drive : DriveState) (handed : List ℕ) → IsUnheard late
    → IsWriting (led lead late) writing.wanted.key writing.deleted handed writing.stage → (time : WordTime)
    → WriteDoes time head_drive steps writing polls drive between → WritesNothing time
hears_window lead late head_drive steps writing polls between drive handed none was (KeptOut index word) (opening, does) =
    no_due lead late writing.wanted.key writing.deleted handed writing.stage none was (opens_due writing.stage opening)
hears_window lead late head_drive steps writing polls between drive handed none was (Wrote opened closed index word) does =
    no_due lead late writing.wanted.key writing.deleted handed writing.stage none was does.due
hears_window lead late head_drive steps writing polls between drive handed none was _ does = tt

-- ---- of a FORMAT

no_turn : (lead : ℕ) (late : Past) (first : List ℕ) → IsUnheard late → turns_led lead late.turns ≡ first ∷ [] → ⊥
no_turn lead late first none is =
    let one = ap length is in
    let same = few_led lead late.turns in
    let nothing = ap (λ (p : Past). length p.turns) none in
    omega arith

no_next : (lead : ℕ) (late : Past) (seen : List ℕ) (place : ℕ) (words : List ℕ) (barred : Bool) (part : FormatPart) → IsUnheard late
    → IsAtPart (turns_led lead late.turns) seen place words barred part → is_next part ≡ true → ⊥
no_next lead late seen place words barred Due none was due = no_turn lead late was.0.first none was.0.turns_are
no_next lead late seen place words barred Lay none was due = no_turn lead late was.0.first none was.0.turns_are
no_next lead late seen place words barred _ none was due = false≢true due

next_first : (part : FormatPart) → is_first part ≡ true → is_next part ≡ true
next_first Await opening = opening
next_first Barred opening = opening
next_first _ opening = refl

hears_track : (lead : ℕ) (late : Past) (head_drive steps : ℕ) (formatting : Formatting) (polls between : Fdc) (drive : DriveState) → IsUnheard late
    → IsAtPart (turns_led lead late.turns) (turn_led lead late.turns late.seen) late.place late.words late.barred formatting.stage.part → (time : WordTime)
    → FormatDoes time head_drive steps formatting polls drive between → WritesNothing time
hears_track lead late head_drive steps formatting polls between drive none was (KeptOut index word) (opening, does) =
    no_next lead late (turn_led lead late.turns late.seen) late.place late.words late.barred formatting.stage.part none was (next_first formatting.stage.part opening)
hears_track lead late head_drive steps formatting polls between drive none was (Wrote opened closed index word) does =
    no_next lead late (turn_led lead late.turns late.seen) late.place late.words late.barred formatting.stage.part none was does.due
hears_track lead late head_drive steps formatting polls between drive none was _ does = tt

-- ---- in execution

module _ (scene : Scene) (lead : ℕ) (late : Past) (drive after : DriveState) (polls between : Fdc) (asking : Bool) (fifo : Fifo) (whole : IsScene scene) (rate : polls.rate ≡ scene.rate)
    (guarded : 1 ≤ lead → scene.disk.protected ≡ false) (none : IsUnheard late) (spins : IsSpinning scene lead drive) where
  spun_window : (deleted : Bool) (now : Task) (head_drive steps : ℕ) → MayWriteTask (led lead late) scene.sent deleted head_drive steps now asking fifo
      → WritesTask now head_drive steps asking fifo polls drive after between
      → IsTimed (Window deleted) scene (λ past executes. IsLed (Write (Window deleted)) scene past executes after) (led lead late) between
  spun_window deleted (task.Write writing) head_drive steps may writing_step =
      let (asks, (handed, on)) = may in
      let does = writing_step.step.does in
      let outcome = write_outcome does.time head_drive steps writing polls drive between does.does in
      record {
        time = does.time;
        may = writing_step.writes (led lead late) scene.sent deleted may;
        covered = λ is. let (first, covered) = refused does.time steps drive polls between outcome is in sym (ap is_protected spins.turning.medium) ∙ covered;
        at = by_time (Window deleted) scene lead late drive after (is_executing between.phase) whole guarded none spins does.time
            (hears_window lead late head_drive steps writing polls between drive handed none on.writes does.time does.does)
            (time_here scene does.time drive after polls head_drive (ap (λ s. s.head_drive) on.sent_is) rate does.is)
            (unprotected_spun scene lead late drive steps does.time none spins guarded on.steps_are writing_step.step.guards)
            (over_stopped does.time steps drive polls between outcome);
      }
  spun_window deleted _ head_drive steps may writing_step = absurd may

  spun_track : (numbers : Numbers) (now : Task) (head_drive steps : ℕ)
      → MayFormatTask (led lead late) scene.sent.head_drive numbers head_drive steps now asking fifo
      → WritesTask now head_drive steps asking fifo polls drive after between
      → IsTimed (Track numbers) scene (λ past executes. IsLed (Write (Track numbers)) scene past executes after) (led lead late) between
  spun_track numbers (task.Format formatting) head_drive steps may writing_step =
      let (asks, (handed, on)) = may in
      let does = writing_step.step.does in
      let outcome = format_outcome does.time head_drive steps formatting polls drive between does.does in
      record {
        time = does.time;
        may = writing_step.formats (led lead late) scene.sent.head_drive numbers may;
        covered = λ is. let (first, covered) = refused does.time steps drive polls between outcome is in sym (ap is_protected spins.turning.medium) ∙ covered;
        at = by_time (Track numbers) scene lead late drive after (is_executing between.phase) whole guarded none spins does.time
            (hears_track lead late head_drive steps formatting polls between drive none on.formats.0 does.time does.does)
            (time_here scene does.time drive after polls head_drive on.sent_is rate does.is)
            (unprotected_spun scene lead late drive steps does.time none spins guarded on.steps_are writing_step.step.guards)
            (over_stopped does.time steps drive polls between outcome);
      }
  spun_track numbers _ head_drive steps may writing_step = absurd may

  spun_laid : (laid : Laid) (execution : Execution) → MayLayIn laid scene (led lead late) (Execute execution) asking fifo
      → WritesIn (Execute execution) asking fifo polls drive after between
      → IsTimed laid scene (λ past executes. IsLed (Write laid) scene past executes after) (led lead late) between
  spun_laid (Window deleted) execution may does = spun_window deleted execution.task execution.head_drive execution.steps may does
  spun_laid (Track numbers) execution may does = spun_track numbers execution.task execution.head_drive execution.steps may does

works_led : (laid : Laid) (scene : Scene) (lead : ℕ) (late : Past) (drive after : DriveState) (polls between : Fdc) (asking : Bool) (fifo : Fifo)
    → IsScene scene → polls.rate ≡ scene.rate → lead ≤ 6250
    → (1 ≤ lead → scene.disk.protected ≡ false) → (IsUnheard late × IsSpinning scene lead drive) ⊎ LaysOn laid scene late true drive → (execution : Execution)
    → MayLayIn laid scene (led lead late) (Execute execution) asking fifo → WritesIn (Execute execution) asking fifo polls drive after between
    → IsTimed laid scene (λ past executes. IsLed (Write laid) scene past executes after) (led lead late) between
works_led laid scene lead late drive after polls between asking fifo whole rate short guarded (inl (none, spins)) execution may does =
    spun_laid scene lead late drive after polls between asking fifo whole rate guarded none spins laid execution may does
works_led laid scene lead late drive after polls between asking fifo whole rate short guarded (inr at) execution may does =
    let made = timed_led laid scene lead late drive after polls between asking fifo whole rate guarded at execution may does in
    record {
      time = made.time;
      may = made.may;
      covered = made.covered;
      at = record { lead = lead; late = after_time made.time late; past_is = time_led lead late made.time; short = short; guarded = guarded; drive_is = inr made.at };
    }

rests_led : (laid : Laid) (scene : Scene) (past : Past) (drive after : DriveState) → IsScene scene → IsLed (Write laid) scene past false drive
    → after.medium ≡ drive.medium → drive.faults ≤ after.faults → IsLed (Write laid) scene past false after
rests_led laid scene past drive after whole was same falls = led_at (Write laid) scene past false false drive after was
    (inr ((laying laid scene whole).rests was.late drive after (led_over (Write laid) scene past false drive whole was) same falls))

pub laying_led : (laid : Laid) (scene : Scene) → IsScene scene → Laying laid scene (IsLed (Write laid) scene)
laying_led laid scene whole = record {
  works = λ past drive after polls between asking fifo rate was execution may does.
      subst (λ p. IsTimed laid scene (λ now executes. IsLed (Write laid) scene now executes after) p between) (sym was.past_is)
      (works_led laid scene was.lead was.late drive after polls between asking fifo whole rate was.short was.guarded was.drive_is execution
      (subst (λ p. MayLayIn laid scene p (Execute execution) asking fifo) was.past_is may) does);
  rests = λ past drive after was same falls. rests_led laid scene past drive after whole was same falls;
}

-- ---- A device step of a data command, whatever the drive's speed was when it began

word_time : (order : Order) (scene : Scene) (past : Past) (chips : Chips) (drive : DriveState) (between : Fdc) (after : DriveState) → IsScene scene
    → IsDoneBy order scene past chips → IsLed order scene past (is_executing chips.controller.phase) drive → Works chips.controller drive between after
    → IsDoing order scene (λ past executes. IsLed order scene past executes after) (record chips { controller = between })
word_time Identify scene past chips drive between after whole known at works =
    ids.listened scene (IsLed Identify scene) (listening_led Identify scene tt whole) (brief_led scene whole) past chips drive between after known at works
word_time Read scene past chips drive between after whole known at works =
    reads.listened scene (IsLed Read scene) (listening_led Read scene tt whole) past chips drive between after known at works
word_time (Write laid) scene past chips drive between after whole known at works =
    laid_timed laid scene (IsLed (Write laid) scene) (laying_led laid scene whole) past chips drive between after known at works

pub led_keeps : (order : Order) (scene : Scene) → KeepsOn order scene (IsLed order scene)
led_keeps order scene = record { word_time = word_time order scene; bytes = led_bytes order scene; less = led_less order scene }

pub warming : (order : Order) (scene : Scene) → Steady (WarmsUp order scene)
warming order scene = goes_on order scene (IsLed order scene) (led_keeps order scene)

-- ---- port accesses of a data command, whatever the drive's speed was when it began

pub inputs_keep : (order : Order) (scene : Scene) (port value : ℕ) (old new : Board) → Inputs port old value new → WarmsUp order scene old
    → WarmsUp order scene new ⊎ ((controller_of new).phase ≡ phase.Command)
inputs_keep order scene = inputs_go order scene (IsLed order scene) (led_keeps order scene)

pub outputs_keep : (order : Order) (scene : Scene) (port value : ℕ) (old new : Board) → Outputs port value old new → Leaves port value old → WarmsUp order scene old → WarmsUp order scene new
outputs_keep order scene = outputs_go order scene (IsLed order scene) (led_keeps order scene)

pub still_keeps : (order : Order) (scene : Scene) (old new : Board) → StandsStill old new → WarmsUp order scene old → WarmsUp order scene new
still_keeps order scene = still_goes order scene (IsLed order scene) (led_keeps order scene)

-- ---- the write that begins it

first_guarded : (order : Order) (scene : Scene) → IsGuarded order scene 0
first_guarded (Write laid) scene = λ some. absurd (omega arith)
first_guarded _ scene = tt

begun_led : (order : Order) (scene : Scene) (executes : Bool) (drive : DriveState) → IsScene scene → IsTurningIn scene drive
    → IsLed order scene new_past executes drive
begun_led order scene executes drive whole is = record {
  lead = 0;
  late = new_past;
  past_is = refl;
  short = omega arith;
  guarded = first_guarded order scene;
  drive_is = elim (slow_or_fast drive.spin) [
    | inl slow ↦ inl (refl, record { turning = is; slow = slow; since = omega arith })
    | inr fast ↦ inr (nothing_heard order scene new_past executes drive whole refl is (λ _. fast))
  ];
}

pub begins : (order : Order) (scene : Scene) (byte : ℕ) (old new : Board) → Outputs 0x3F5 byte old new → CanWarm order scene byte old → WarmsUp order scene new
begins order scene = begins_on order scene (IsLed order scene) (led_keeps order scene) IsTurningIn (begun_led order scene)

-- ---- if the drive was at speed

pub can_warm : (order : Order) (scene : Scene) (byte : ℕ) (board : Board) → CanBegin order scene byte board → CanWarm order scene byte board
can_warm order scene byte board can = record {
  scene_is = can.scene_is;
  dor = can.dor;
  rate = can.rate;
  drive = turning_of scene (drive_in board scene.bay) can.drive;
  memory = can.memory;
  channel = can.channel;
  last = can.last;
}
