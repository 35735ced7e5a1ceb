-- FORMAT TRACK over a medium at speed: the sector IDs that were given are laid.
use Rattle.std.proofs.Common.{◌≡◌, inl, inr, ℕ, zero, suc, ◌+◌, ◌%◌, ◌≤◌, Bool, true, false, not, ◌&&◌, ◌==◌, if◌then◌else◌, Option, Some, None, List, [], ◌∷◌, ◌++◌, length, refl, sym, ◌∙◌, ap, subst, arith, length-append, append-nil, append_assoc}
use Rattle.laws_chip.proofs.Common.{and_parts, eqb-true, false≢true, IsDisk, DriveState, is_protected, rate_of, Dor, Fifo, emptied, IsAtPart, Numbers, is_first, is_next, Past, new_past, heard, kept_out, wrote, FormatNext, stepped, told_in, head_of, is_reading, rate_fits, IsFormattingOn, MayFormatIn, MayFormatTask, took, Phase, Taking, Execute, Result, Task, Formatting, BeginsData, taken_in, to_memory_of, told_count, Outset, IsTurningIn, IsAtDrive, FormatDoes, after_laid, is_executing, asks, is_gated, polled, IsHeardTime, IsTime, KeptOut, Saw, Stopped, WordTime, Wrote, after_time, WritesIn, WritesTask, MayFormat, Fdc, in_formats, told_formats, format_tells, lays_track, drive_less, kept_on, saw_on, still_unprotected, stopped_on, wrote_on, AdapterState, StepsAdapter, drive_at, selected_at, Front, GivesAt, GivesFront, TakesAt, TakesFront, told_front, told_if, with_controller, GivesCommand, StepsFront, Through, ChipState, passes_by_channel, passes_by_port, with_front, FormatsIf, Obeys, is_size, with_keys, with_last, GivesChipIf, GivesIf, ReadsAt, ReadsIf, TakesByte, TakesIf, StepsChip, Busy, passed_in, IsFreeBehind, Call, Does, AreAt, ExecutesBehind, IsSound, executes_single, SentTask as Sent, CommandFormatTrack as FormatTrack}
use Rattle.fdc_stages.specs.declared.formatting.FormatPart.{FormatPart}
use Rattle.fdc_stages.specs.declared.formatting.FormatPart.TheVariants.{Await, Due, Lay, Barred}
use Rattle.fdc_phases.specs.Formatting.{is_ended}
use Rattle.laws_chip.proofs.LateWriting.{window_none}
use Rattle.laws_chip.specs.FormatTracks.{GiveAll, GivesAs, GivesByte, IsFormatBegun, LaysKeys, LetDrives, TurnsAtSpeed, lets_drives, numbers_of}
use Rattle.laws_chip.proofs.Channels.{counts_executes, gives_executes}
use Rattle.laws_chip.proofs.CommandsBegun.{begins_sent}
use Rattle.laws_chip.proofs.PassedOn.{no_results, other_read, step_same}
use Rattle.laws_chip.proofs.Known.{adapter_stays, polled_rate, time_taken}
use Rattle.laws_chip.proofs.Rests.{through_step, executes_step, format_executes, waits_shown}
use Rattle.laws_chip.proofs.SoundCalls.{call_sound}
use Rattle.laws_chip.proofs.UnderWay.{either_way, format_obeyed, stands_free}
use Rattle.fdc_stages.specs.declared.formatting.FormatNext.TheVariants as next
use Rattle.fdc_phases.specs.declared.phases.Task.TheVariants as task
use Rattle.fdc_sequencer.specs.Fronts as fronts
use Rattle.fdc_chip.specs.Ports as ports
use Rattle.fdc_chip.specs.declared.code.ChipOpcode.TheVariants as code
use Rattle.laws_chip.specs.Calls as made

-- ---- parts of a FORMAT

due_words : (turns : List (List ℕ)) (seen : List ℕ) (place : ℕ) (words : List ℕ) (barred : Bool) (part : FormatPart) → IsAtPart turns seen place words barred part → is_next part ≡ false → words ≡ []
due_words turns seen place words barred Due was due = absurd (false≢true (sym due))
due_words turns seen place words barred Lay was due = absurd (false≢true (sym due))
due_words turns seen place words barred _ was due = was.1

record IsDueNow (words : List ℕ) (part : FormatPart) : Type 0 where
  first : is_first part ≡ true → words ≡ []
  later : is_first part ≡ false → 1 ≤ length words

due_now : (turns : List (List ℕ)) (seen : List ℕ) (place : ℕ) (words : List ℕ) (barred : Bool) (part : FormatPart) → IsAtPart turns seen place words barred part → is_next part ≡ true → IsDueNow words part
due_now turns seen place words barred Due was due = record { first = λ _. was.2; later = λ no. absurd (false≢true (sym no)) }
due_now turns seen place words barred Lay was due = record { first = λ no. absurd (false≢true no); later = λ _. was.2 }
due_now turns seen place words barred _ was due = absurd (false≢true due)

first_words : (turns : List (List ℕ)) (seen : List ℕ) (place : ℕ) (words : List ℕ) (barred : Bool) (part : FormatPart) → IsAtPart turns seen place words barred part → is_first part ≡ true → words ≡ []
first_words turns seen place words barred Due was first = was.2
first_words turns seen place words barred _ was first = absurd (false≢true first)

record IsInExecution (past : Past) : Type 0 where
  place : 1 ≤ length past.words → past.place ≡ length past.words
  few : length past.turns ≤ 1

one_long : (turns : List (List ℕ)) (first : List ℕ) → turns ≡ first ∷ [] → length turns ≤ 1
one_long turns first is = let one = ap length is in omega arith

no_words : (words : List ℕ) → words ≡ [] → 1 ≤ length words → ⊥
no_words words none some = let long = ap length none in omega arith

at_part : (past : Past) (part : FormatPart) → IsAtPart past.turns past.seen past.place past.words past.barred part → IsInExecution past
at_part past Await was = record { place = λ some. absurd (no_words past.words was.1 some); few = let none = ap length was.0 in omega arith }
at_part past Due was = record { place = λ some. absurd (no_words past.words was.2 some); few = one_long past.turns was.0.first was.0.turns_are }
at_part past Lay was = record { place = λ _. was.1; few = one_long past.turns was.0.first was.0.turns_are }
at_part past Barred was = record { place = λ some. absurd (no_words past.words was.1 some); few = one_long past.turns was.0.0 was.0.1 }

in_execution : (past : Past) (sent : ℕ) (numbers : Numbers) (phase : Phase) (asking : Bool) (fifo : Fifo) → MayFormatIn past sent numbers phase asking fifo → is_executing phase ≡ true → IsInExecution past
in_execution past sent numbers Taking asking fifo was busy = absurd was
in_execution past sent numbers (Result answer) asking fifo was busy = absurd (false≢true busy)
in_execution past sent numbers (Execute execution) asking fifo was busy = in_task execution.task execution.head_drive execution.steps was
  where
    in_task : (chosen : Task) (head_drive steps : ℕ) → MayFormatTask past sent numbers head_drive steps chosen asking fifo → IsInExecution past
    in_task (task.Format formatting) head_drive steps (asks, (handed, on)) = at_part past formatting.stage.part on.formats.0
    in_task _ head_drive steps was = absurd was

no_index : (index : Bool) (word : ℕ) (past : Past) → IsInExecution (wrote index word (stepped past)) → index ≡ false
no_index true word past is =
    let more : length (past.words ++ word ∷ []) ≡ length past.words + 1 = length-append past.words (word ∷ []) in
    let place = is.place (omega arith) in absurd (omega arith)
no_index false word past is = refl

ended_rests : (head_drive steps : ℕ) (formatting : Formatting) (after : FormatNext) (old : Fdc) → is_executing (after_laid head_drive steps formatting after old).phase ≡ true → is_ended after ≡ false
ended_rests head_drive steps formatting (next.On now) old busy = refl
ended_rests head_drive steps formatting (next.Ended ending key) old busy = absurd (false≢true busy)

abbrev is_stopped : WordTime → Bool
is_stopped Stopped = true
is_stopped _ = false

-- ---- ---- the word time of a FORMAT

module _ (outset : Outset) (unit : ℕ) (numbers : Numbers) (past : Past) (drive after : DriveState) (polls between : Fdc) (steps : ℕ) (formatting : Formatting) (fifo handed : List ℕ)
    (valid : IsDisk outset.disk) (was : IsAtDrive outset past true drive) (head_drive : ℕ) (on : IsFormattingOn past unit numbers head_drive formatting steps fifo handed) where
  unprotected_now : (time : WordTime) → is_stopped time ≡ false → (steps ≡ 0 → is_protected drive.medium ≡ true → time ≡ Stopped) → outset.disk.protected ≡ false
  unprotected_now time goes guards =
      still_unprotected outset past drive steps was on.steps_are on.fresh (λ first covered. false≢true (sym goes ∙ ap is_stopped (guards first covered)))

  saw : (index : Bool) (word : ℕ) → IsHeardTime index word outset.rate outset.head drive after → past.words ≡ [] → outset.disk.protected ≡ false
      → (is_executing between.phase ≡ true → IsInExecution (heard index word (stepped past))) → IsAtDrive outset (heard index word (stepped past)) (is_executing between.phase) after
  saw index word is none unprotected after_is = saw_on outset past drive after index (is_executing between.phase) word valid was none unprotected is (λ busy. (after_is busy).few)

  by_time : (time : WordTime) → IsTime time outset.rate outset.head drive after → FormatDoes time head_drive steps formatting polls drive between
      → (steps ≡ 0 → is_protected drive.medium ≡ true → time ≡ Stopped) → MayFormat (after_time time past) unit numbers between
      → IsAtDrive outset (after_time time past) (is_executing between.phase) after
  by_time (Saw index word) is (due, does) guards after_is =
      let none = due_words past.turns past.seen past.place past.words past.barred formatting.stage.part on.formats.0 due in
      saw index word is none (unprotected_now (Saw index word) refl guards) (λ busy. in_execution (heard index word (stepped past)) unit numbers between.phase between.asking between.fifo after_is busy)
  by_time (KeptOut index word) (other, is) (opening, does) guards after_is =
      let none = first_words past.turns past.seen past.place past.words past.barred formatting.stage.part on.formats.0 opening in
      let misfit : rate_fits outset.rate outset.disk.rate ≡ false = sym (ap (λ m. rate_fits outset.rate (rate_of m)) (was.medium.quiet none)) ∙ other in
      kept_on outset (heard index word (stepped past)) (is_executing between.phase) after
      (saw index word is none (unprotected_now (KeptOut index word) refl guards) (λ busy. same_execution (in_execution (kept_out index word (stepped past)) unit numbers between.phase between.asking between.fifo after_is busy))) misfit
    where
      same_execution : IsInExecution (kept_out index word (stepped past)) → IsInExecution (heard index word (stepped past))
      same_execution is = record { place = is.place; few = is.few }
  by_time (Wrote opened closed index word) is does guards after_is =
      let due = due_now past.turns past.seen past.place past.words past.barred formatting.stage.part on.formats.0 does.due in
      wrote_on outset past drive after opened closed index (is_executing between.phase) word valid (fits_now opened is.fits (λ yes. due.first (sym does.opened_is ∙ yes)) (λ no. due.later (sym does.opened_is ∙ no)))
      was (unprotected_now (Wrote opened closed index word) refl guards) (λ yes. due.first (sym does.opened_is ∙ yes)) (λ no. due.later (sym does.opened_is ∙ no)) is
      (λ busy. does.closed_is ∙ ended_rests head_drive (steps + 1) formatting does.next _ (sym (ap (λ fdc. is_executing fdc.phase) does.after_is) ∙ busy))
      (λ busy. no_index index word past (in_execution (wrote index word (stepped past)) unit numbers between.phase between.asking between.fifo after_is busy))
    where
      fits_now : (opened : Bool) → (opened ≡ true → rate_fits outset.rate (rate_of drive.medium) ≡ true) → (opened ≡ true → past.words ≡ []) → (opened ≡ false → 1 ≤ length past.words) → rate_fits outset.rate outset.disk.rate ≡ true
      fits_now true fits first later = sym (ap (λ m. rate_fits outset.rate (rate_of m)) (was.medium.quiet (first refl))) ∙ fits refl
      fits_now false fits first later = was.fits (later refl)
  by_time Stopped is does guards after_is =
      subst (λ b. IsAtDrive outset (stepped past) b after) (sym (ap (λ fdc. is_executing fdc.phase) does.after_is)) (stopped_on outset past drive after valid was is)

-- ---- while it is executed

record IsFormattingAt (outset : Outset) (bay unit : ℕ) (numbers : Numbers) (given : List ℕ) (front : Front) : Type 0 where
  executes : ExecutesBehind front
  past : Past
  known : MayFormat past unit numbers front.adapter.controller
  taken : past.taken ≡ given
  at : IsAtDrive outset past true (drive_at front.adapter bay)
  selects : selected_at front.adapter ≡ bay
  rate : front.adapter.controller.rate ≡ outset.rate

-- what is known after a device step, whether the FORMAT is over or not
record Stepped (outset : Outset) (unit : ℕ) (numbers : Numbers) (given : List ℕ) (new : Fdc) (drive : DriveState) : Type 0 where
  past : Past
  known : MayFormat past unit numbers new
  taken : past.taken ≡ given
  at : IsAtDrive outset past (is_executing new.phase) drive

phase_steps : (outset : Outset) (unit : ℕ) (numbers : Numbers) (given : List ℕ) (past : Past) (phase : Phase) (asking : Bool) (fifo : Fifo) (polls new : Fdc) (before after : DriveState) → IsDisk outset.disk → outset.head ≡ head_of unit
    → polls.rate ≡ outset.rate → is_executing phase ≡ true → past.taken ≡ given → MayFormatIn past unit numbers phase asking fifo → IsAtDrive outset past true before → WritesIn phase asking fifo polls before after new
    → Stepped outset unit numbers given new after
phase_steps outset unit numbers given past Taking asking fifo polls new before after valid head rate busy taken known at writes = absurd known
phase_steps outset unit numbers given past (Result told) asking fifo polls new before after valid head rate busy taken known at writes = absurd (false≢true busy)
phase_steps outset unit numbers given past (Execute execution) asking fifo polls new before after valid head rate busy taken known at writes = by_task execution.task known writes
  where
    by_task : (chosen : Task) → MayFormatTask past unit numbers execution.head_drive execution.steps chosen asking fifo → WritesTask chosen execution.head_drive execution.steps asking fifo polls before after new
        → Stepped outset unit numbers given new after
    by_task (task.Format formatting) known writes =
        let (asks, (handed, on)) = known in
        let does = writes.step.does in
        let may = writes.formats past unit numbers known in
        record {
          past = after_time does.time past;
          known = may;
          taken = time_taken does.time past ∙ taken;
          at = by_time outset unit numbers past before after polls new execution.steps formatting fifo.bytes handed valid at execution.head_drive on does.time
              (grind (arith, head_of)) does.does writes.step.guards may;
        }
    by_task _ known writes = absurd known

known_busy : (front : Front) → ExecutesBehind front → is_executing front.adapter.controller.phase ≡ true
known_busy front executes = by_phase front.adapter.controller.phase executes.executes
  where
    by_phase : (phase : Phase) → executes_single phase ≡ true → is_executing phase ≡ true
    by_phase (Execute execution) is = refl
    by_phase _ is = absurd (false≢true is)

bay_steps : (outset : Outset) (bay unit : ℕ) (numbers : Numbers) (given : List ℕ) (front : Front) (new : AdapterState) → bay ≤ 1 → IsDisk outset.disk → outset.head ≡ head_of unit → IsFormattingAt outset bay unit numbers given front
    → StepsAdapter front.adapter new → Stepped outset unit numbers given new.controller (drive_at new bay)
bay_steps outset zero unit numbers given front new few valid head was steps =
    let fdc = front.adapter.controller in
    phase_steps outset unit numbers given was.past fdc.phase fdc.asking fdc.fifo (polled fdc) new.controller front.adapter.first new.first valid head (polled_rate fdc ∙ was.rate) (known_busy front was.executes) was.taken was.known was.at
    (steps.at_first was.selects).0.writes
bay_steps outset (suc zero) unit numbers given front new few valid head was steps =
    let fdc = front.adapter.controller in
    phase_steps outset unit numbers given was.past fdc.phase fdc.asking fdc.fifo (polled fdc) new.controller front.adapter.second new.second valid head (polled_rate fdc ∙ was.rate) (known_busy front was.executes) was.taken was.known was.at
    (steps.at_second was.selects).0.writes
bay_steps outset (suc (suc bay)) unit numbers given front new few valid head was steps = absurd (omega (arith, few))

front_steps : (outset : Outset) (bay unit : ℕ) (numbers : Numbers) (given : List ℕ) (old new : Front) (step : StepsFront old new) → bay ≤ 1 → IsDisk outset.disk → outset.head ≡ head_of unit
    → IsFormattingAt outset bay unit numbers given old → Stepped outset unit numbers given new.adapter.controller (drive_at new.adapter bay)
front_steps outset bay unit numbers given old new step few valid head was =
    subst (λ (f : Front). Stepped outset unit numbers given f.adapter.controller (drive_at f.adapter bay)) (sym (through_step old new step was.executes.through))
    (bay_steps outset bay unit numbers given old step.between few valid head was step.steps)

stepped_lays : (outset : Outset) (unit : ℕ) (numbers : Numbers) (given : List ℕ) (new : Fdc) (drive : DriveState) → Stepped outset unit numbers given new drive → LaysKeys outset unit numbers given new drive
stepped_lays outset unit numbers given new drive is = record {
  past = is.past;
  taken = is.taken;
  lays = lays_track is.past unit numbers new is.known;
  stands = is.at.medium;
  tells = format_tells is.past unit numbers new is.known;
}

-- if the chip is busy after the step too, the FORMAT goes on
still_executes : (old new : ChipState) (step : StepsChip old new) → IsSound old → old.stage ≡ Busy Sent → new.stage ≡ Busy Sent → ExecutesBehind old.front → ExecutesBehind step.between
still_executes old new step sound at stays was =
    elim (executes_step old.front step.between step.steps sound.whole was).0 [
      | inl executes ↦ executes
      | inr waits ↦ absurd (no_results old new step at stays waits.results (waits_shown step.between waits))
    ]

-- ---- the channel

-- a FORMAT gives no bytes
reads_none : (past : Past) (unit : ℕ) (numbers : Numbers) (phase : Phase) (asking : Bool) (fifo : Fifo) → MayFormatIn past unit numbers phase asking fifo → is_reading phase ≡ false
reads_none past unit numbers Taking asking fifo known = absurd known
reads_none past unit numbers (Result told) asking fifo known = refl
reads_none past unit numbers (Execute execution) asking fifo known = by_task execution.task known
  where
    by_task : (chosen : Task) → MayFormatTask past unit numbers execution.head_drive execution.steps chosen asking fifo → is_reading (Execute (record execution { task = chosen })) ≡ false
    by_task (task.Format formatting) known = refl
    by_task _ known = absurd known

module _ (outset : Outset) (bay unit : ℕ) (numbers : Numbers) where
  abbrev Going : List ℕ → Front → Type 0
  Going given front = IsFormattingAt outset bay unit numbers given front

  same_going : (given : List ℕ) (old new : Front) → new ≡ old → Going given old → Going given new
  same_going given old new is was = subst (Going given) (sym is) was

  takes_going : (given : List ℕ) (byte : Option ℕ) (old new : Front) → TakesFront old byte new → Going given old → Going given new
  takes_going given byte old new takes was = by_byte byte (subst (λ s. TakesAt s old byte new) was.executes.through takes)
    where
      by_byte : (byte : Option ℕ) → TakesAt Through old byte new → Going given new
      by_byte None ((quiet, same), is) = same_going given old new (is ∙ ap (λ (c : Fdc). record old { adapter = with_controller c old.adapter }) same) was
      by_byte (Some byte) ((up, byte_is, same), is) =
          let fdc = old.adapter.controller in
          let reads = reads_none was.past unit numbers fdc.phase fdc.asking fdc.fifo was.known in
          absurd (false≢true (sym reads ∙ (and_parts (asks fdc) (to_memory_of fdc) up).1))

  -- a byte of a sector ID is given, or not
  gives_going : (given : List ℕ) (byte : ℕ) (taken : Bool) (old new : Front) → GivesFront byte old taken new → Going given old → Going (given ++ passed_in taken byte) new
  gives_going given byte taken old new gives was = by_taken taken gives (subst (λ s. GivesAt s byte old taken new) was.executes.through gives)
    where
      by_taken : (taken : Bool) → GivesFront byte old taken new → GivesAt Through byte old taken new → Going (given ++ passed_in taken byte) new
      by_taken false gives ((quiet, same), is) =
          subst (λ bytes. Going bytes new) (sym (append-nil given)) (same_going given old new (is ∙ ap (λ (c : Fdc). record old { adapter = with_controller c old.adapter }) same) was)
      by_taken true gives ((up, same), is) =
          let fdc = old.adapter.controller in
          let asking = (and_parts (is_gated fdc) fdc.asking (and_parts (asks fdc) (not (to_memory_of fdc)) up).0).1 in
          let at : new ≡ record old { adapter = with_controller (taken_in byte fdc) old.adapter } = is ∙ ap (λ (c : Fdc). record old { adapter = with_controller c old.adapter }) same in
          let executes = gives_executes byte old true new gives was.executes in
          let next : Going (given ++ byte ∷ []) (record old { adapter = with_controller (taken_in byte fdc) old.adapter }) = record {
            executes = subst ExecutesBehind at executes;
            past = took byte was.past;
            known = in_formats was.past unit numbers fdc.phase fdc.asking fdc.fifo byte asking was.known;
            taken = ap (λ t. t ++ byte ∷ []) was.taken;
            at = drive_less outset was.past true true (drive_at old.adapter bay) was.past.given (was.past.taken ++ byte ∷ []) was.past.counted (λ busy. busy) was.at;
            selects = was.selects;
            rate = was.rate;
          } in
          subst (Going (given ++ byte ∷ [])) (sym at) next

  counts_going : (given : List ℕ) (old new : Front) → new ≡ told_front old → Going given old → Going given new
  counts_going given old new is was =
      let fdc = old.adapter.controller in
      let at : new ≡ record old { adapter = told_if true old.adapter } = subst (λ stage. new ≡ fronts.count_told stage old) was.executes.through is in
      let known : MayFormat (told_in true was.past) unit numbers (told_count fdc) =
      subst (λ b. MayFormat (told_in b was.past) unit numbers (told_count fdc)) (known_busy old was.executes) (told_formats was.past unit numbers fdc.phase fdc.asking fdc.fifo was.known) in
      let next : Going given (record old { adapter = told_if true old.adapter }) = record {
        executes = subst ExecutesBehind at (counts_executes old new is was.executes);
        past = told_in true was.past;
        known = known;
        taken = was.taken;
        at = drive_less outset was.past true true (drive_at old.adapter bay) was.past.given was.past.taken true (λ busy. busy) was.at;
        selects = was.selects;
        rate = was.rate;
      } in
      subst (Going given) (sym at) next

  -- ---- the chip

  -- the bytes that a call gave are added to those given before
  abbrev Given : Call → ChipState → ChipState → List ℕ → Type 0
  Given call old new given = (bytes : List ℕ) × GivesAs call old new bytes × Going (given ++ bytes) new.front

  no_more : (given : List ℕ) (front : Front) → Going given front → Going (given ++ []) front
  no_more given front was = subst (λ bytes. Going bytes front) (sym (append-nil given)) was

  takes_on : (b : Bool) (given : List ℕ) (byte : Option ℕ) (old new : ChipState) → TakesIf b old byte new → Going given old.front → Going given new.front
  takes_on true given byte old new (takes, rest) was = takes_going given byte old.front new.front takes was
  takes_on false given byte old new (none, is) was = same_going given old.front new.front (ap (λ (chip : ChipState). chip.front) is) was

  gives_on : (b : Bool) (given : List ℕ) (byte : ℕ) (taken : Bool) (old new : ChipState) → GivesChipIf b byte old taken new → Going given old.front → Going (given ++ passed_in taken byte) new.front
  gives_on true given byte taken old new (gives, rest) was = gives_going given byte taken old.front new.front gives was
  gives_on false given byte taken old new (none, is) was =
      subst (λ t. Going (given ++ passed_in t byte) new.front) (sym none) (no_more given new.front (same_going given old.front new.front (ap (λ (chip : ChipState). chip.front) is) was))

  read_on : (b : Bool) (given : List ℕ) (value : ℕ) (old new : ChipState) → ReadsIf b old value new → Going given old.front → Going given new.front
  read_on true given value old new reads was = takes_going given reads.byte old.front new.front reads.takes was
  read_on false given value old new (none, is) was = same_going given old.front new.front (ap (λ (chip : ChipState). chip.front) is) was

  write_on : (b : Bool) (given : List ℕ) (value : ℕ) (old new : ChipState) → GivesIf b value old new → Going given old.front → (bytes : List ℕ) × GivesByte b value old new bytes × Going (given ++ bytes) new.front
  write_on true given value old new gives was = (passed_in gives.was value, (gives.was, gives.gives, refl), gives_going given value gives.was old.front new.front gives.gives was)
  write_on false given value old new is was = ([], refl, no_more given new.front (same_going given old.front new.front (ap (λ (chip : ChipState). chip.front) is) was))

  none_given : (given : List ℕ) (old new : ChipState) → new.front ≡ old.front → Going given old.front → Going (given ++ []) new.front
  none_given given old new is was = no_more given new.front (same_going given old.front new.front is was)

  call_on : (call : Call) (given : List ℕ) (old new : ChipState) → bay ≤ 1 → IsDisk outset.disk → outset.head ≡ head_of unit → lets_drives call ≡ true → IsSound old → old.stage ≡ Busy Sent → new.stage ≡ Busy Sent
      → Does call old new → Going given old.front → Given call old new given
  call_on made.Steps given old new few valid head lets sound at stays step was =
      let same = step_same old new step at stays in
      let stepped = front_steps outset bay unit numbers given old.front step.between step.steps few valid head was in
      let front : new.front ≡ step.between = ap (λ (chip : ChipState). chip.front) same in
      let now : Going given step.between = going_now stepped in
      ([], refl, no_more given new.front (subst (Going given) (sym front) now))
    where
      going_now : Stepped outset unit numbers given step.between.adapter.controller (drive_at step.between.adapter bay) → Going given step.between
      going_now stepped =
          let stays_at = adapter_stays old.front.adapter step.steps.between step.steps.steps in
          let through = through_step old.front step.between step.steps was.executes.through in
          let controller = ap (λ (f : Front). f.adapter.controller) through in
          let executes = still_executes old new step sound at stays was.executes in
          record {
            executes = executes;
            past = stepped.past;
            known = stepped.known;
            taken = stepped.taken;
            at = subst (λ b. IsAtDrive outset stepped.past b (drive_at step.between.adapter bay)) (known_busy step.between executes) stepped.at;
            selects = ap (λ (c : Fdc). c.dor.0 % 4) controller ∙ (ap (λ (d : Dor). d.0 % 4) stays_at.dor ∙ was.selects);
            rate = ap (λ (c : Fdc). c.rate) controller ∙ (stays_at.rate ∙ was.rate);
          }
  call_on (made.Takes byte) given old new few valid head lets sound at stays does was = ([], refl, no_more given new.front (takes_on (passes_by_channel old) given byte old new does was))
  call_on (made.Gives byte taken) given old new few valid head lets sound at stays does was = (passed_in taken byte, refl, gives_on (passes_by_channel old) given byte taken old new does was)
  call_on made.Counts given old new few valid head lets sound at stays does was =
      let is : new ≡ with_front (told_front old.front) old = subst (λ stage. new ≡ ports.count_told stage old) at does in
      ([], refl, no_more given new.front (counts_going given old.front new.front (ap (λ (chip : ChipState). chip.front) is) was))
  call_on (made.Reads port value) given old new few valid head lets sound at stays does was = (
    [],
    refl,
    no_more given new.front (either_way (port == 0x3F5)
        (λ here. read_on (passes_by_port old) given value old new (subst (λ stage. ReadsAt stage old value new) at (does.byte (eqb-true port 0x3F5 here))) was)
        (λ no_data. same_going given old.front new.front (ap (λ (chip : ChipState). chip.front) (other_read port value old new no_data does)) was)),
  )
  call_on (made.Writes port value) given old new few valid head lets sound at stays does was =
      write_on (passes_by_port old) given value old new (subst (λ stage. TakesByte stage value old new) at (does.bytes (eqb-true port 0x3F5 lets))) was
  call_on made.Changes given old new few valid head lets sound at stays does was = absurd (false≢true lets)
  call_on _ given old new few valid head lets sound at stays does was = ([], refl, none_given given old new (ap (λ (chip : ChipState). chip.front) does) was)

  -- the same of all calls
  record AllGiven (given : List ℕ) (calls : List Call) (old new : ChipState) (at : AreAt (Busy Sent) calls old new) : Type 0 where
    bytes : List ℕ
    give : GiveAll (Busy Sent) calls old new at bytes
    going : Going (given ++ bytes) new.front

  calls_on : (calls : List Call) (given : List ℕ) (old new : ChipState) (at : AreAt (Busy Sent) calls old new) → bay ≤ 1 → IsDisk outset.disk → outset.head ≡ head_of unit → LetDrives calls → IsSound old → old.stage ≡ Busy Sent
      → Going given old.front → AllGiven given calls old new at
  calls_on [] given old new same few valid head lets sound stage was =
      record { bytes = []; give = refl; going = none_given given old new (ap (λ (chip : ChipState). chip.front) same) was }
  calls_on (call ∷ calls) given old new (between, does, byte, stays, rest) few valid head (lets, more) sound stage was =
      let (first, gave, going) = call_on call given old between few valid head lets sound stage stays does was in
      let all = calls_on calls (given ++ first) between new rest few valid head more (call_sound call old between does byte sound) stays going in
      record { bytes = first ++ all.bytes; give = (first, all.bytes, gave, all.give, refl); going = rw (← append_assoc) all.going }

-- ---- ---- how the FORMAT begins

begun_going : (outset : Outset) (bay unit : ℕ) (numbers : Numbers) (chip : ChipState) → IsFormatBegun unit numbers chip → TurnsAtSpeed outset bay unit chip → IsFormattingAt outset bay unit numbers [] chip.front × (chip.stage ≡ Busy Sent)
begun_going outset bay unit numbers chip is turns =
    let sent = begins_sent Sent (GivesCommand (FormatTrack unit numbers.n numbers.sectors numbers.gap3 numbers.fill)) is.set chip (stands_free is.set.front is.free) is.begins in
    let obeyed = format_obeyed unit numbers.n numbers.sectors numbers.gap3 numbers.fill sent.set chip.front sent.stands is.sized sent.gives in
    let fdc = sent.set.adapter.controller in
    let begins : BeginsData (FormatTrack unit numbers.n numbers.sectors numbers.gap3 numbers.fill) (record fdc { command = [] }) chip.front.adapter.controller = (obeyed.obeys.0 sent.stands.rests).1 sent.stands.by_dma in
    let drive = drive_at chip.front.adapter bay in
    let faults : outset.faults ≤ drive.faults = let same = turns.faults in omega arith in
    let turning : IsTurningIn outset drive = record { medium = turns.medium; cylinder = turns.cylinder; motor = turns.motor; place = turns.place; inside = let inside = turns.inside in omega arith; never_falls = faults } in (
      record {
        executes = (format_executes unit numbers.n numbers.sectors numbers.gap3 numbers.fill sent.set chip.front sent.stands obeyed).0;
        past = new_past;
        known = subst (MayFormat new_past unit numbers) (sym begins.3) (begins.1 (emptied fdc.fifo.on fdc.fifo.threshold) false refl);
        taken = refl;
        at = (window_none outset new_past true drive turns.disk turning (λ _. turns.speed)).at;
        selects = turns.selects;
        rate = turns.rate;
      },
      sent.stage,
    )

pub format_lays : (outset : Outset) (bay unit : ℕ) (numbers : Numbers) (calls : List Call) (begun last new : ChipState) (at : AreAt (Busy Sent) calls begun last) (step : StepsChip last new) → IsSound begun
    → IsFormatBegun unit numbers begun → TurnsAtSpeed outset bay unit begun → LetDrives calls
    → (given : List ℕ) × GiveAll (Busy Sent) calls begun last at given × LaysKeys outset unit numbers given step.between.adapter.controller (drive_at step.between.adapter bay)
format_lays outset bay unit numbers calls begun last new at step sound is turns lets =
    let (going, stage) = begun_going outset bay unit numbers begun is turns in
    let all = calls_on outset bay unit numbers calls [] begun last at turns.bay_is turns.disk turns.head lets sound stage going in
    let stepped = front_steps outset bay unit numbers all.bytes last.front step.between step.steps turns.bay_is turns.disk turns.head all.going in
    (all.bytes, all.give, stepped_lays outset unit numbers all.bytes step.between.adapter.controller (drive_at step.between.adapter bay) stepped)

pub format_begins : (old new : ChipState) → is_size old.order.key.c ≡ true → IsFreeBehind old.front → Obeys (code.FormatTrack true) old new → IsFormatBegun old.order.unit (numbers_of old.order) new
format_begins old new sized free obeys =
    let set = with_keys old.order.key.h (with_last old.order.key.h old) in
    record { sized = sized; set = set; free = free; begins = subst (λ b. FormatsIf b true set new) sized obeys }
