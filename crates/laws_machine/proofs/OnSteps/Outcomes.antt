-- What a word time makes of a data command in execution: the command goes on, or it gives its results.
use Rattle.std.proofs.Common.{◌≡◌, ◌⊎◌, inl, inr, ℕ, ◌+◌, ◌≤◌, ◌==◌, ◌%◌, ◌/◌, Bool, true, false, List, length, drop, if◌then◌else◌, Option, Some, None, refl, sym, ◌∙◌, ap, subst, arith}
use Rattle.laws_machine.proofs.Common.{DriveState, is_protected, Chrn, Ending, IsFailure, Fifo, FormatNext, WriteNext, Protected, NoMark, Overrun, Late, FormatDoes, after_laid, is_executing, is_listening, Hears, StepsOn, SearchOutcome, ReadOutcome, IsTime, WordTime, Saw, KeptOut, Wrote, Stopped, after_searched, after_heard, gone_on, gone_on_reading, over_or_on, at_stage, ending_of, is_full, pushed, finished, WritesTask, WriteDoes, after_next, without_byte, Fdc, Task, Format, Formatting, Writing, Reading, MakesTask, is_unread, refuses_as, fills, fills_task, false≢true, length-drop, refuses, false_from_ne_true, Stops, is_ended, ReadTask as Read, ReadId, WriteTask as Write}
use Rattle.fdc_stages.specs.Writings.{EndsWell, FailsWell, IsEnd, needs_byte}
use Rattle.fdc_phases.specs.Formatting as laying
use Rattle.fdc_stages.specs.Formats as formats
use Rattle.fdc_stages.specs.Readings as given
use Rattle.fdc_stages.specs.Searches as searched
use Rattle.fdc_stages.specs.declared.formatting.FormatNext.TheVariants as format_next
use Rattle.fdc_stages.specs.declared.writing.WriteNext.TheVariants as write_next

abbrev pub with_bytes : List ℕ → Fdc → Fdc
with_bytes bytes old = record old { fifo = record old.fifo { bytes = bytes } }

-- the command goes on with such a task and such bytes in the FIFO, or it gives its results with such an ending
pub data Outcome (On : Task → List ℕ → Type 0) (Over : Ending → Type 0) (old new : Fdc) : Type 0 where
  Continues : (head_drive steps : ℕ) (task : Task) (bytes : List ℕ) → On task bytes → new ≡ gone_on head_drive steps task (with_bytes bytes old) → Outcome On Over old new
  Finishes : (ending : Ending) (head_drive : ℕ) (key : Chrn) → Over ending → new ≡ finished ending head_drive key old → Outcome On Over old new

-- ---- what each outcome leaves

-- the command has given its results
pub record IsFinished (new : Fdc) : Type 0 where
  pub up : new.interrupt ≡ true
  pub quiet : new.asking ≡ false
  pub unread : is_unread new.phase ≡ true

-- the seeks and the poll are as they were, and so is INT while the command goes on
pub record Leaves (old new : Fdc) : Type 0 where
  pub seeks : new.seeks ≡ old.seeks
  pub poll : new.poll_due ≡ old.poll_due
  pub goes_on : is_executing new.phase ≡ true → new.interrupt ≡ old.interrupt
  pub ends : is_executing new.phase ≡ false → IsFinished new

pub leaves : {On : Task → List ℕ → Type 0} {Over : Ending → Type 0} (old new : Fdc) → Outcome On Over old new → Leaves old new
leaves old new (Outcome.Continues head_drive steps task bytes on is) = record {
  seeks = ap (λ fdc. fdc.seeks) is;
  poll = ap (λ fdc. fdc.poll_due) is;
  goes_on = λ _. ap (λ fdc. fdc.interrupt) is;
  ends = λ idle. absurd (false≢true (sym idle ∙ ap (λ fdc. is_executing fdc.phase) is));
}
leaves old new (Outcome.Finishes ending head_drive key over is) = record {
  seeks = ap (λ fdc. fdc.seeks) is;
  poll = ap (λ fdc. fdc.poll_due) is;
  goes_on = λ busy. absurd (false≢true (sym (ap (λ fdc. is_executing fdc.phase) is) ∙ busy));
  ends = λ _. record { up = ap (λ fdc. fdc.interrupt) is; quiet = ap (λ fdc. fdc.asking) is; unread = ap (λ fdc. is_unread fdc.phase) is };
}

-- ---- commands that listen

abbrev pub Listened : Fdc → Fdc → Type 0
Listened old new = Outcome (λ task bytes. is_listening task ≡ true) (λ ending. Unit {0}) old new

searched_outcome : (head_drive steps : ℕ) (after : SearchOutcome) (old : Fdc) → Listened old (after_searched head_drive steps after old)
searched_outcome head_drive steps (searched.On search) old = Outcome.Continues head_drive steps (ReadId search) old.fifo.bytes refl refl
searched_outcome head_drive steps (searched.Met key separator) old = Outcome.Finishes _ head_drive key tt refl
searched_outcome head_drive steps (searched.Missed ending) old = Outcome.Finishes ending head_drive _ tt refl

over_outcome : (ending : Option Ending) (empty : Bool) (head_drive steps : ℕ) (reading : Reading) (bytes : List ℕ) (old : Fdc)
    → Listened old (over_or_on ending empty head_drive steps reading (with_bytes bytes old))
over_outcome (Some ending) true head_drive steps reading bytes old = Outcome.Finishes ending head_drive _ tt refl
over_outcome None empty head_drive steps reading bytes old = Outcome.Continues head_drive steps (Read reading) bytes refl refl
over_outcome (Some ending) false head_drive steps reading bytes old = Outcome.Continues head_drive steps (Read reading) bytes refl refl

gone_outcome : (head_drive steps : ℕ) (reading : Reading) (bytes : List ℕ) (old : Fdc) → Listened old (gone_on_reading head_drive steps reading (with_bytes bytes old))
gone_outcome head_drive steps reading bytes old = over_outcome (ending_of reading) (length bytes == 0) head_drive steps reading bytes old

byte_outcome : (counted full : Bool) (head_drive steps : ℕ) (reading : Reading) (value : ℕ) (old : Fdc)
    → Listened old (if counted then gone_on_reading head_drive steps reading old else (if full then finished Overrun head_drive reading.wanted.key old else gone_on_reading head_drive steps reading (pushed value old)))
byte_outcome true full head_drive steps reading value old = gone_outcome head_drive steps reading old.fifo.bytes old
byte_outcome false true head_drive steps reading value old = Outcome.Finishes Overrun head_drive reading.wanted.key tt refl
byte_outcome false false head_drive steps reading value old = gone_outcome head_drive steps reading (pushed value old).fifo.bytes old

heard_outcome : (head_drive steps : ℕ) (reading : Reading) (after : ReadOutcome) (old : Fdc) → Listened old (after_heard head_drive steps reading after old)
heard_outcome head_drive steps reading (given.On stage) old = gone_outcome head_drive steps (at_stage reading stage) old.fifo.bytes old
heard_outcome head_drive steps reading (given.Byte stage value) old = byte_outcome reading.counted (is_full old) head_drive steps (at_stage reading stage) value old
heard_outcome head_drive steps reading (given.Ended ending) old = Outcome.Finishes ending head_drive reading.wanted.key tt refl

hears_outcome : (head_drive steps : ℕ) (task : Task) (index : Bool) (word : ℕ) (old new : Fdc) → is_listening task ≡ true → Hears head_drive steps task index word old new → Listened old new
hears_outcome head_drive steps (ReadId search) index word old new listens (after, hears, is) = subst (Listened old) (sym is) (searched_outcome head_drive steps after old)
hears_outcome head_drive steps (Read reading) index word old new listens (after, hears, is) = subst (Listened old) (sym is) (heard_outcome head_drive steps reading after old)
hears_outcome head_drive steps _ index word old new listens hears = absurd (false≢true listens)

pub listened : (head_drive steps : ℕ) (task : Task) (index : Bool) (word : ℕ) (old new : Fdc) → is_listening task ≡ true → StepsOn head_drive steps task index word old new → Listened old new
listened head_drive steps task index word old new listens (inl (last, is)) = Outcome.Finishes Late head_drive _ tt is
listened head_drive steps task index word old new listens (inr (few, hears)) = hears_outcome head_drive (steps + 1) task index word old new listens hears

-- ---- commands that write

-- the gate is closed after a word just if the command is over, and a command that was stopped is over
abbrev pub ClosesIf : Bool → WordTime → Type 0
ClosesIf over (Wrote opened closed index word) = closed ≡ over
ClosesIf over Stopped = over ≡ true
ClosesIf over _ = Unit {0}

-- a command that writes goes on with no more bytes in the FIFO
abbrev pub StillWrites : WordTime → Fdc → Task → List ℕ → Type 0
StillWrites time old task bytes = (fills_task task ≡ true) × (length bytes ≤ length old.fifo.bytes) × ClosesIf false time

-- its results report NW only if it met a protected medium in its first step
abbrev pub StopsWell : WordTime → ℕ → DriveState → Ending → Type 0
StopsWell time steps before ending = ClosesIf true time × (refuses_as ending ≡ true → (steps ≡ 0) × (is_protected before.medium ≡ true))

abbrev pub Written : WordTime → ℕ → DriveState → Fdc → Fdc → Type 0
Written time steps before old new = Outcome (StillWrites time old) (StopsWell time steps before) old new

-- what each outcome of a command that writes says
pub covered : (time : WordTime) (steps : ℕ) (before : DriveState) (old new : Fdc) → Written time steps before old new → refuses new.phase ≡ true → (steps ≡ 0) × (is_protected before.medium ≡ true)
covered time steps before old new (Outcome.Continues head_drive later task bytes still is) refused = absurd (false≢true (sym (ap (λ fdc. refuses fdc.phase) is) ∙ refused))
covered time steps before old new (Outcome.Finishes ending head_drive key (closes, well) is) refused = well (sym (ap (λ fdc. refuses fdc.phase) is) ∙ refused)

pub closes_not : (time : WordTime) (steps : ℕ) (before : DriveState) (old new : Fdc) → Written time steps before old new → is_executing new.phase ≡ true → ClosesIf false time
closes_not time steps before old new (Outcome.Continues head_drive later task bytes (writes, few, closes) is) busy = closes
closes_not time steps before old new (Outcome.Finishes ending head_drive key well is) busy = absurd (false≢true (sym (ap (λ fdc. is_executing fdc.phase) is) ∙ busy))

pub over_stopped : (time : WordTime) (steps : ℕ) (before : DriveState) (old new : Fdc) → Written time steps before old new → time ≡ Stopped → is_executing new.phase ≡ false
over_stopped time steps before old new outcome stopped = false_from_ne_true (is_executing new.phase) (λ busy. false≢true (subst (ClosesIf false) stopped (closes_not time steps before old new outcome busy)))

calm_write : (ending : Ending) → IsFailure ending ⊎ IsEnd ending → refuses_as ending ≡ false
calm_write Protected (inl is) = absurd is
calm_write Protected (inr is) = absurd is
calm_write _ is = refl

calm_format : (ending : Ending) → (ending ≡ NoMark) ⊎ formats.IsEnd ending → refuses_as ending ≡ false
calm_format ending (inl is) = ap refuses_as is
calm_format Protected (inr is) = absurd is
calm_format _ (inr is) = refl

stops_first : (ending : Ending) (steps : ℕ) (protects : Bool) (byte : Option ℕ) → Stops steps protects byte ending → refuses_as ending ≡ true → (steps ≡ 0) × (protects ≡ true)
stops_first Protected steps protects byte stops is = stops
stops_first _ steps protects byte stops is = absurd (false≢true is)

-- the bytes of the FIFO without the one that the word needs
abbrev left : Bool → Fdc → List ℕ
left needs old = if needs then drop 1 old.fifo.bytes else old.fifo.bytes

left_fewer : (needs : Bool) (old : Fdc) → length (left needs old) ≤ length old.fifo.bytes
left_fewer true old = let less = length-drop 1 old.fifo.bytes in omega arith
left_fewer false old = omega arith

without_is : (needs : Bool) (old : Fdc) → without_byte needs old ≡ with_bytes (left needs old) old
without_is true old = refl
without_is false old = refl

module _ (time : WordTime) (head_drive steps : ℕ) (before : DriveState) (old new : Fdc) where
  after_write : (writing : Writing) (after : WriteNext) (bytes : List ℕ) → length bytes ≤ length old.fifo.bytes → ClosesIf (is_ended after) time → FailsWell after ⊎ EndsWell after
      → new ≡ after_next head_drive (steps + 1) writing after (with_bytes bytes old) → Written time steps before old new
  after_write writing (write_next.On stage) bytes few closes well is = Outcome.Continues head_drive (steps + 1) _ bytes (refl, few, closes) is
  after_write writing (write_next.Ended ending) bytes few closes well is = Outcome.Finishes ending head_drive _ (closes, λ refuses. absurd (false≢true (sym (calm_write ending well) ∙ refuses))) is

  after_format : (formatting : Formatting) (after : FormatNext) (bytes : List ℕ) → length bytes ≤ length old.fifo.bytes → ClosesIf (laying.is_ended after) time
      → formats.FailsWell after ⊎ formats.EndsWell after → new ≡ after_laid head_drive (steps + 1) formatting after (with_bytes bytes old) → Written time steps before old new
  after_format formatting (format_next.On stage) bytes few closes well is = Outcome.Continues head_drive (steps + 1) _ bytes (refl, few, closes) is
  after_format formatting (format_next.Ended ending key) bytes few closes well is = Outcome.Finishes ending head_drive key (closes, λ refuses. absurd (false≢true (sym (calm_format ending well) ∙ refuses))) is

pub write_outcome : (time : WordTime) (head_drive steps : ℕ) (writing : Writing) (old : Fdc) (before : DriveState) (new : Fdc) → WriteDoes time head_drive steps writing old before new → Written time steps before old new
write_outcome (Saw index word) head_drive steps writing old before new (due, does) = after_write (Saw index word) head_drive steps before old new writing does.next old.fifo.bytes (omega arith) tt (inl does.hears.1) does.after_is
write_outcome (KeptOut index word) head_drive steps writing old before new (opening, does) = after_write (KeptOut index word) head_drive steps before old new writing does.next old.fifo.bytes (omega arith) tt (inl does.hears.1) does.after_is
write_outcome (Wrote opened closed index word) head_drive steps writing old before new does =
    after_write (Wrote opened closed index word) head_drive steps before old new writing does.next (left _ old) (left_fewer _ old) does.closed_is (inr does.writes.well)
    (does.after_is ∙ ap (after_next head_drive (steps + 1) writing does.next) (without_is (needs_byte writing.stage) old))
write_outcome Stopped head_drive steps writing old before new does = Outcome.Finishes does.ending head_drive _ (refl, stops_first does.ending steps (is_protected before.medium) _ does.stops) does.after_is

pub format_outcome : (time : WordTime) (head_drive steps : ℕ) (formatting : Formatting) (old : Fdc) (before : DriveState) (new : Fdc) → FormatDoes time head_drive steps formatting old before new → Written time steps before old new
format_outcome (Saw index word) head_drive steps formatting old before new (due, does) = after_format (Saw index word) head_drive steps before old new formatting does.next old.fifo.bytes (omega arith) tt (inl does.hears.1) does.after_is
format_outcome (KeptOut index word) head_drive steps formatting old before new (opening, does) = after_format (KeptOut index word) head_drive steps before old new formatting does.next old.fifo.bytes (omega arith) tt (inl does.hears.1) does.after_is
format_outcome (Wrote opened closed index word) head_drive steps formatting old before new does =
    after_format (Wrote opened closed index word) head_drive steps before old new formatting does.next (left _ old) (left_fewer does.needs old) does.closed_is (inr does.lays.well)
    (does.after_is ∙ ap (after_laid head_drive (steps + 1) formatting does.next) (without_is does.needs old))
format_outcome Stopped head_drive steps formatting old before new does = Outcome.Finishes does.ending head_drive _ (refl, stops_first does.ending steps (is_protected before.medium) _ does.stops) does.after_is

-- the word time of a command that writes
pub record HasTime (task : Task) (head_drive steps : ℕ) (polls : Fdc) (before after : DriveState) (new : Fdc) : Type 0 where
  pub time : WordTime
  pub is : IsTime time polls.rate (head_drive / 4 % 2) before after
  pub does : MakesTask task head_drive steps time polls before new
  pub outcome : Written time steps before polls new

pub has_time : (task : Task) (head_drive steps : ℕ) (asking : Bool) (fifo : Fifo) (polls : Fdc) (before after : DriveState) (new : Fdc) → fills_task task ≡ true
    → WritesTask task head_drive steps asking fifo polls before after new → HasTime task head_drive steps polls before after new
has_time (Write writing) head_drive steps asking fifo polls before after new fills writes =
    let does = writes.step.does in record { time = does.time; is = does.is; does = does.does; outcome = write_outcome does.time head_drive steps writing polls before new does.does }
has_time (Format formatting) head_drive steps asking fifo polls before after new fills writes =
    let does = writes.step.does in record { time = does.time; is = does.is; does = does.does; outcome = format_outcome does.time head_drive steps formatting polls before new does.does }
has_time _ head_drive steps asking fifo polls before after new fills writes = absurd (false≢true fills)
