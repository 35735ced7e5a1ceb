-- A data command comes to its end.
use Rattle.std.proofs.Common.{◌≡◌, ℕ, ◌+◌, ◌-◌, ◌<◌, ◌≤◌, Bool, true, false, if◌then◌else◌, ◌==◌, length, Option, Some, refl, sym, subst, arith, inl, inr, not, ◌&&◌, [], ◌∷◌, length-append, length-drop}
use Rattle.fdc_core.proofs.Common.{Ending, Overrun, Protected, Late, ReadOutcome, SearchOutcome, ending_of, is_listening, after_searched, after_heard, over_or_on, gone_on_reading, at_stage, pushed, is_full, finished, DriveState, at_index, no_key, FormatDoes, after_laid, Hears, StepsOn, IsCounted, Ends, EndsIn, TaskSteps, TaskStepsNowhere, WordTime, Saw, KeptOut, Wrote, Stopped, WriteDoes, Stops, after_next, Phase, Execute, Formatting, Writing, FormatNext, WriteNext, Chrn, false≢true, Fdc, Execution, Reading, Task, ReadId, Read, Write, Format, with_polls, Done, key_after, gone_on, phase_asks, key_as_sent, write_at, format_at, is_held, Stays, Flows, FlowsIn, MovesTask, MovesIn, MovesDrive, polled, without_byte, needs_byte, Feeds}
use Rattle.fdc_core.specs.Steps.{steps_left}
use Rattle.fdc_core.proofs.Feeding.{step_feeds}
use Rattle.fdc_stages.specs.Readings as heard
use Rattle.fdc_stages.specs.Searches as searched
use Rattle.fdc_stages.specs.declared.formatting.FormatNext.TheVariants as format_next
use Rattle.fdc_stages.specs.declared.writing.WriteNext.TheVariants as write_next

-- at most so many steps are left, and they are counted
abbrev Leaves : ℕ → Phase → Type 0
Leaves steps phase = (steps_left phase ≤ 65536 - steps) × IsCounted phase

-- the same with one fewer
abbrev LeavesFewer : ℕ → Phase → Type 0
LeavesFewer steps phase = (steps_left phase < 65536 - steps) × IsCounted phase

searched_left : (head_drive steps : ℕ) (old : Fdc) (after : SearchOutcome) → steps < 65536 → Leaves steps (after_searched head_drive steps after old).phase
searched_left head_drive steps old (searched.On search) few = (omega arith, few)
searched_left head_drive steps old _ few = (omega arith, tt)

over_left : (ending : Option Ending) (empty : Bool) (head_drive steps : ℕ) (reading : Reading) (old : Fdc) → steps < 65536 → Leaves steps (over_or_on ending empty head_drive steps reading old).phase
over_left (Some ending) true head_drive steps reading old few = (omega arith, tt)
over_left _ _ head_drive steps reading old few = (omega arith, few)

on_left : (head_drive steps : ℕ) (reading : Reading) (old : Fdc) → steps < 65536 → Leaves steps (gone_on_reading head_drive steps reading old).phase
on_left head_drive steps reading old few = over_left (ending_of reading) (length old.fifo.bytes == 0) head_drive steps reading old few

byte_left : (counted full : Bool) (head_drive steps value : ℕ) (reading : Reading) (old : Fdc) → steps < 65536
    → Leaves steps (if counted then gone_on_reading head_drive steps reading old else (if full then finished Overrun head_drive reading.wanted.key old else gone_on_reading head_drive steps reading (pushed value old))).phase
byte_left true full head_drive steps value reading old few = on_left head_drive steps reading old few
byte_left false true head_drive steps value reading old few = (omega arith, tt)
byte_left false false head_drive steps value reading old few = on_left head_drive steps reading (pushed value old) few

heard_left : (head_drive steps : ℕ) (reading : Reading) (old : Fdc) (after : ReadOutcome) → steps < 65536 → Leaves steps (after_heard head_drive steps reading after old).phase
heard_left head_drive steps reading old (heard.On stage) few = on_left head_drive steps (at_stage reading stage) old few
heard_left head_drive steps reading old (heard.Byte stage value) few = byte_left reading.counted (is_full old) head_drive steps value (at_stage reading stage) old few
heard_left head_drive steps reading old (heard.Ended ending) few = (omega arith, tt)

-- a word that is heard
hears_left : (index : Bool) (word head_drive steps : ℕ) (task : Task) (old new : Fdc) → is_listening task ≡ true → steps < 65536 → Hears head_drive steps task index word old new → Leaves steps new.phase
hears_left index word head_drive steps (ReadId search) old new listens few (after, hears, is) =
    subst (λ fdc. Leaves steps fdc.phase) (sym is) (searched_left head_drive steps old after few)
hears_left index word head_drive steps (Read reading) old new listens few (after, hears, is) =
    subst (λ fdc. Leaves steps fdc.phase) (sym is) (heard_left head_drive steps reading old after few)
hears_left index word head_drive steps _ old new listens few hears = absurd (false≢true listens)

-- a command that listens
listen_left : (index : Bool) (word head_drive steps : ℕ) (task : Task) (old new : Fdc) → is_listening task ≡ true → StepsOn head_drive steps task index word old new → LeavesFewer steps new.phase
listen_left index word head_drive steps task old new listens (inl (last, is)) = subst (λ fdc. LeavesFewer steps fdc.phase) (sym is) (omega arith, tt)
listen_left index word head_drive steps task old new listens (inr (few, hears)) =
    let left = hears_left index word head_drive (steps + 1) task old new listens (omega arith) hears in
    let fewer = left.0 in (omega arith, left.1)

-- commands that write
next_left : (head_drive steps : ℕ) (writing : Writing) (next : WriteNext) (old new : Fdc) → steps < 65535 → new ≡ after_next head_drive (steps + 1) writing next old → LeavesFewer steps new.phase
next_left head_drive steps writing (write_next.On stage) old new few is = subst (λ fdc. LeavesFewer steps fdc.phase) (sym is) (omega arith, omega arith)
next_left head_drive steps writing (write_next.Ended ending) old new few is = subst (λ fdc. LeavesFewer steps fdc.phase) (sym is) (omega arith, tt)

laid_left : (head_drive steps : ℕ) (formatting : Formatting) (next : FormatNext) (old new : Fdc) → steps < 65535 → new ≡ after_laid head_drive (steps + 1) formatting next old → LeavesFewer steps new.phase
laid_left head_drive steps formatting (format_next.On stage) old new few is = subst (λ fdc. LeavesFewer steps fdc.phase) (sym is) (omega arith, omega arith)
laid_left head_drive steps formatting (format_next.Ended ending key) old new few is = subst (λ fdc. LeavesFewer steps fdc.phase) (sym is) (omega arith, tt)

stops_few : (steps : ℕ) (protects : Bool) (byte : Option ℕ) (ending : Ending) → Stops steps protects byte ending → steps ≤ 65535
stops_few steps protects byte Late is = omega arith
stops_few steps protects byte Protected is = let first = is.0 in omega arith
stops_few steps protects byte Overrun is = let few = is.0 in omega arith
stops_few steps protects byte _ is = absurd is

stop_left : (ending : Ending) (head_drive steps : ℕ) (key : Chrn) (old new : Fdc) → steps ≤ 65535 → new ≡ finished ending head_drive key old → LeavesFewer steps new.phase
stop_left ending head_drive steps key old new few is = subst (λ fdc. LeavesFewer steps fdc.phase) (sym is) (omega arith, tt)

write_left : (time : WordTime) (head_drive steps : ℕ) (writing : Writing) (old : Fdc) (before : DriveState) (new : Fdc) → WriteDoes time head_drive steps writing old before new → LeavesFewer steps new.phase
write_left (Saw index word) head_drive steps writing old before new (due, is) = next_left head_drive steps writing is.next old new is.few is.after_is
write_left (KeptOut index word) head_drive steps writing old before new (opens, is) = next_left head_drive steps writing is.next old new is.few is.after_is
write_left (Wrote opened closed index word) head_drive steps writing old before new is = next_left head_drive steps writing is.next _ new is.few is.after_is
write_left Stopped head_drive steps writing old before new is = stop_left is.ending head_drive steps writing.wanted.key old new (stops_few steps _ _ is.ending is.stops) is.after_is

format_left : (time : WordTime) (head_drive steps : ℕ) (formatting : Formatting) (old : Fdc) (before : DriveState) (new : Fdc) → FormatDoes time head_drive steps formatting old before new → LeavesFewer steps new.phase
format_left (Wrote opened closed index word) head_drive steps formatting old before new is = laid_left head_drive steps formatting is.next _ new is.few is.after_is
format_left Stopped head_drive steps formatting old before new is = stop_left is.ending head_drive steps no_key old new (stops_few steps _ _ is.ending is.stops) is.after_is
format_left _ head_drive steps formatting old before new (due, is) = laid_left head_drive steps formatting is.next old new is.few is.after_is

task_left : (task : Task) (head_drive steps : ℕ) (old : Fdc) (before after : DriveState) (new : Fdc) → TaskSteps task head_drive steps old before after new → LeavesFewer steps new.phase
task_left (ReadId search) head_drive steps old before after new is = listen_left (at_index before) is.word head_drive steps (ReadId search) old new refl is.does
task_left (Read reading) head_drive steps old before after new is = listen_left (at_index before) is.word head_drive steps (Read reading) old new refl is.does
task_left (Write writing) head_drive steps old before after new is = write_left is.does.time head_drive steps writing old before new is.does.does
task_left (Format formatting) head_drive steps old before after new is = format_left is.does.time head_drive steps formatting old before new is.does.does

nowhere_left : (task : Task) (head_drive steps : ℕ) (old new : Fdc) → TaskStepsNowhere task head_drive steps old new → LeavesFewer steps new.phase
nowhere_left (ReadId search) head_drive steps old new is = listen_left false 0 head_drive steps (ReadId search) old new refl is
nowhere_left (Read reading) head_drive steps old new is = listen_left false 0 head_drive steps (Read reading) old new refl is
nowhere_left (Write writing) head_drive steps old new (inl (last, is)) = stop_left Late head_drive steps writing.wanted.key old new (omega arith) is
nowhere_left (Write writing) head_drive steps old new (inr (few, (next, hears, is))) = next_left head_drive steps writing next old new few is
nowhere_left (Format formatting) head_drive steps old new (inl (last, is)) = stop_left Late head_drive steps no_key old new (omega arith) is
nowhere_left (Format formatting) head_drive steps old new (inr (few, (next, hears, is))) = laid_left head_drive steps formatting next old new few is

pub executes_left : (old new : Fdc) (before after : DriveState) (execution : Execution) → old.phase ≡ Execute execution → TaskSteps execution.task execution.head_drive execution.steps old before after new → Ends old new
executes_left old new before after execution is steps =
    subst (λ phase. EndsIn phase new.phase) (sym is) (task_left execution.task execution.head_drive execution.steps old before after new steps)

pub executes_left_none : (old new : Fdc) (execution : Execution) → old.phase ≡ Execute execution → TaskStepsNowhere execution.task execution.head_drive execution.steps old new → Ends old new
executes_left_none old new execution is steps =
    subst (λ phase. EndsIn phase new.phase) (sym is) (nowhere_left execution.task execution.head_drive execution.steps old new steps)

-- ---- what a device step leaves as it was, and DRQ in execution

-- both: what stays, and DRQ by the FIFO's rule
pub record Keeps (old new : Fdc) : Type 0 where
  pub stays : Stays old new
  pub flows : new.asking ≡ phase_asks new.phase old.asking new.fifo

finishes : (ending : Ending) (head_drive : ℕ) (key : Chrn) (old mid : Fdc) → Stays old mid → Keeps old (finished ending head_drive key mid)
finishes ending head_drive key old mid was = record {
  stays = record { dor = was.dor; rate = was.rate; non_dma = was.non_dma; polling = was.polling; command = was.command; data_commands = was.data_commands; on = was.on; threshold = was.threshold; few = omega arith };
  flows = refl;
}

goes : (head_drive steps : ℕ) (task : Task) (old mid : Fdc) → mid.asking ≡ old.asking → Stays old mid → Keeps old (gone_on head_drive steps task mid)
goes head_drive steps task old mid same was = record {
  stays = record { dor = was.dor; rate = was.rate; non_dma = was.non_dma; polling = was.polling; command = was.command; data_commands = was.data_commands; on = was.on; threshold = was.threshold; few = was.few };
  flows = subst (λ asking. (gone_on head_drive steps task mid).asking ≡ phase_asks (gone_on head_drive steps task mid).phase asking mid.fifo) same refl;
}

pub same_stays : (old : Fdc) → Stays old old
same_stays old = record { dor = refl; rate = refl; non_dma = refl; polling = refl; command = refl; data_commands = refl; on = refl; threshold = refl; few = omega arith }

pushed_stays : (value : ℕ) (old : Fdc) → Stays old (pushed value old)
pushed_stays value old = record { dor = refl; rate = refl; non_dma = refl; polling = refl; command = refl; data_commands = refl; on = refl; threshold = refl; few = omega (arith, length-append old.fifo.bytes (value ∷ [])) }

searched_keeps : (head_drive steps : ℕ) (old : Fdc) (after : SearchOutcome) → Keeps old (after_searched head_drive steps after old)
searched_keeps head_drive steps old (searched.On search) = goes head_drive steps (ReadId search) old old refl (same_stays old)
searched_keeps head_drive steps old (searched.Met key separator) = finishes (Done false) head_drive key old old (same_stays old)
searched_keeps head_drive steps old (searched.Missed ending) = finishes ending head_drive no_key old old (same_stays old)

over_keeps : (ending : Option Ending) (empty : Bool) (head_drive steps : ℕ) (reading : Reading) (old mid : Fdc) → mid.asking ≡ old.asking → Stays old mid → Keeps old (over_or_on ending empty head_drive steps reading mid)
over_keeps (Some ending) true head_drive steps reading old mid same was = finishes ending head_drive (key_after ending reading.wanted.key reading.last_sector) old mid was
over_keeps _ _ head_drive steps reading old mid same was = goes head_drive steps (Read reading) old mid same was

on_keeps : (head_drive steps : ℕ) (reading : Reading) (old mid : Fdc) → mid.asking ≡ old.asking → Stays old mid → Keeps old (gone_on_reading head_drive steps reading mid)
on_keeps head_drive steps reading old mid same was = over_keeps (ending_of reading) (length mid.fifo.bytes == 0) head_drive steps reading old mid same was

byte_keeps : (counted full : Bool) (head_drive steps value : ℕ) (reading : Reading) (old : Fdc)
    → Keeps old (if counted then gone_on_reading head_drive steps reading old else (if full then finished Overrun head_drive reading.wanted.key old else gone_on_reading head_drive steps reading (pushed value old)))
byte_keeps true full head_drive steps value reading old = on_keeps head_drive steps reading old old refl (same_stays old)
byte_keeps false true head_drive steps value reading old = finishes Overrun head_drive reading.wanted.key old old (same_stays old)
byte_keeps false false head_drive steps value reading old = on_keeps head_drive steps reading old (pushed value old) refl (pushed_stays value old)

heard_keeps : (head_drive steps : ℕ) (reading : Reading) (old : Fdc) (after : ReadOutcome) → Keeps old (after_heard head_drive steps reading after old)
heard_keeps head_drive steps reading old (heard.On stage) = on_keeps head_drive steps (at_stage reading stage) old old refl (same_stays old)
heard_keeps head_drive steps reading old (heard.Byte stage value) = byte_keeps reading.counted (is_full old) head_drive steps value (at_stage reading stage) old
heard_keeps head_drive steps reading old (heard.Ended ending) = finishes ending head_drive reading.wanted.key old old (same_stays old)

-- a word that is heard
hears_keeps : (index : Bool) (word head_drive steps : ℕ) (task : Task) (old new : Fdc) → is_listening task ≡ true → Hears head_drive steps task index word old new → Keeps old new
hears_keeps index word head_drive steps (ReadId search) old new listens (after, hears, is) = subst (λ fdc. Keeps old fdc) (sym is) (searched_keeps head_drive steps old after)
hears_keeps index word head_drive steps (Read reading) old new listens (after, hears, is) = subst (λ fdc. Keeps old fdc) (sym is) (heard_keeps head_drive steps reading old after)
hears_keeps index word head_drive steps _ old new listens hears = absurd (false≢true listens)

stop_keeps : (ending : Ending) (head_drive : ℕ) (key : Chrn) (old new : Fdc) → new ≡ finished ending head_drive key old → Keeps old new
stop_keeps ending head_drive key old new is = subst (λ fdc. Keeps old fdc) (sym is) (finishes ending head_drive key old old (same_stays old))

listen_keeps : (index : Bool) (word head_drive steps : ℕ) (task : Task) (old new : Fdc) → is_listening task ≡ true → StepsOn head_drive steps task index word old new → Keeps old new
listen_keeps index word head_drive steps task old new listens (inl (last, is)) = stop_keeps Late head_drive (key_as_sent task) old new is
listen_keeps index word head_drive steps task old new listens (inr (few, hears)) = hears_keeps index word head_drive (steps + 1) task old new listens hears

-- commands that write
without_stays : (needs : Bool) (old : Fdc) → Stays old (without_byte needs old)
without_stays true old = record { dor = refl; rate = refl; non_dma = refl; polling = refl; command = refl; data_commands = refl; on = refl; threshold = refl; few = omega (arith, length-drop 1 old.fifo.bytes) }
without_stays false old = same_stays old

without_asking : (needs : Bool) (old : Fdc) → (without_byte needs old).asking ≡ old.asking
without_asking true old = refl
without_asking false old = refl

next_keeps : (head_drive steps : ℕ) (writing : Writing) (next : WriteNext) (old mid new : Fdc) → mid.asking ≡ old.asking → Stays old mid → new ≡ after_next head_drive steps writing next mid → Keeps old new
next_keeps head_drive steps writing (write_next.On stage) old mid new same was is = subst (λ fdc. Keeps old fdc) (sym is) (goes head_drive steps (Write (write_at writing stage)) old mid same was)
next_keeps head_drive steps writing (write_next.Ended ending) old mid new same was is = subst (λ fdc. Keeps old fdc) (sym is) (finishes ending head_drive (key_after ending writing.wanted.key writing.last_sector) old mid was)

laid_keeps : (head_drive steps : ℕ) (formatting : Formatting) (next : FormatNext) (old mid new : Fdc) → mid.asking ≡ old.asking → Stays old mid → new ≡ after_laid head_drive steps formatting next mid → Keeps old new
laid_keeps head_drive steps formatting (format_next.On stage) old mid new same was is = subst (λ fdc. Keeps old fdc) (sym is) (goes head_drive steps (Format (format_at formatting stage)) old mid same was)
laid_keeps head_drive steps formatting (format_next.Ended ending key) old mid new same was is = subst (λ fdc. Keeps old fdc) (sym is) (finishes ending head_drive key old mid was)

write_keeps : (time : WordTime) (head_drive steps : ℕ) (writing : Writing) (old : Fdc) (before : DriveState) (new : Fdc) → WriteDoes time head_drive steps writing old before new → Keeps old new
write_keeps (Saw index word) head_drive steps writing old before new (due, is) = next_keeps head_drive (steps + 1) writing is.next old old new refl (same_stays old) is.after_is
write_keeps (KeptOut index word) head_drive steps writing old before new (opens, is) = next_keeps head_drive (steps + 1) writing is.next old old new refl (same_stays old) is.after_is
write_keeps (Wrote opened closed index word) head_drive steps writing old before new is =
    let needs = needs_byte writing.stage in
    next_keeps head_drive (steps + 1) writing is.next old (without_byte needs old) new (without_asking needs old) (without_stays needs old) is.after_is
write_keeps Stopped head_drive steps writing old before new is = stop_keeps is.ending head_drive writing.wanted.key old new is.after_is

format_keeps : (time : WordTime) (head_drive steps : ℕ) (formatting : Formatting) (old : Fdc) (before : DriveState) (new : Fdc) → FormatDoes time head_drive steps formatting old before new → Keeps old new
format_keeps (Wrote opened closed index word) head_drive steps formatting old before new is =
    laid_keeps head_drive (steps + 1) formatting is.next old (without_byte is.needs old) new (without_asking is.needs old) (without_stays is.needs old) is.after_is
format_keeps Stopped head_drive steps formatting old before new is = stop_keeps is.ending head_drive no_key old new is.after_is
format_keeps _ head_drive steps formatting old before new (due, is) = laid_keeps head_drive (steps + 1) formatting is.next old old new refl (same_stays old) is.after_is

task_keeps : (task : Task) (head_drive steps : ℕ) (old : Fdc) (before after : DriveState) (new : Fdc) → TaskSteps task head_drive steps old before after new → Keeps old new
task_keeps (ReadId search) head_drive steps old before after new is = listen_keeps (at_index before) is.word head_drive steps (ReadId search) old new refl is.does
task_keeps (Read reading) head_drive steps old before after new is = listen_keeps (at_index before) is.word head_drive steps (Read reading) old new refl is.does
task_keeps (Write writing) head_drive steps old before after new is = write_keeps is.does.time head_drive steps writing old before new is.does.does
task_keeps (Format formatting) head_drive steps old before after new is = format_keeps is.does.time head_drive steps formatting old before new is.does.does

nowhere_keeps : (task : Task) (head_drive steps : ℕ) (old new : Fdc) → TaskStepsNowhere task head_drive steps old new → Keeps old new
nowhere_keeps (ReadId search) head_drive steps old new is = listen_keeps false 0 head_drive steps (ReadId search) old new refl is
nowhere_keeps (Read reading) head_drive steps old new is = listen_keeps false 0 head_drive steps (Read reading) old new refl is
nowhere_keeps (Write writing) head_drive steps old new (inl (last, is)) = stop_keeps Late head_drive writing.wanted.key old new is
nowhere_keeps (Write writing) head_drive steps old new (inr (few, (next, hears, is))) = next_keeps head_drive (steps + 1) writing next old old new refl (same_stays old) is
nowhere_keeps (Format formatting) head_drive steps old new (inl (last, is)) = stop_keeps Late head_drive no_key old new is
nowhere_keeps (Format formatting) head_drive steps old new (inr (few, (next, hears, is))) = laid_keeps head_drive (steps + 1) formatting next old old new refl (same_stays old) is

task_moves : (task : Task) (head_drive steps : ℕ) (old : Fdc) (before after : DriveState) (new : Fdc) → TaskSteps task head_drive steps old before after new → MovesTask (is_listening task) before after
task_moves (Write writing) head_drive steps old before after new is = tt
task_moves (Format formatting) head_drive steps old before after new is = tt
task_moves _ head_drive steps old before after new is = is.passes

flows_in : (phase : Phase) (execution : Execution) (old new : Fdc) → phase ≡ Execute execution → Keeps old new → FlowsIn phase old.asking new
flows_in phase execution old new is keeps = subst (λ p. FlowsIn p old.asking new) (sym is) keeps.flows

module _ (old new : Fdc) (before after : DriveState) (execution : Execution) (is : old.phase ≡ Execute execution) (steps : TaskSteps execution.task execution.head_drive execution.steps old before after new) where
  pub executes_stays : Stays old new
  executes_stays = (task_keeps execution.task execution.head_drive execution.steps old before after new steps).stays

  pub executes_flows : Flows old new
  executes_flows = flows_in old.phase execution old new is (task_keeps execution.task execution.head_drive execution.steps old before after new steps)

  pub executes_feeds : Feeds old → Feeds new
  executes_feeds feeds =
      let keeps = task_keeps execution.task execution.head_drive execution.steps old before after new steps in
      step_feeds old new keeps.stays keeps.flows feeds

  pub executes_moves : MovesDrive old before after
  executes_moves = subst (λ phase. MovesIn phase old before after) (sym is) (task_moves execution.task execution.head_drive execution.steps old before after new steps)

module _ (old new : Fdc) (execution : Execution) (is : old.phase ≡ Execute execution) (steps : TaskStepsNowhere execution.task execution.head_drive execution.steps old new) where
  pub executes_stays_none : Stays old new
  executes_stays_none = (nowhere_keeps execution.task execution.head_drive execution.steps old new steps).stays

  pub executes_flows_none : Flows old new
  executes_flows_none = flows_in old.phase execution old new is (nowhere_keeps execution.task execution.head_drive execution.steps old new steps)

-- the poll moves nothing of this
if_stays : (b : Bool) (old new : Fdc) → Stays (if b then record old { poll_due = false; interrupt = true; seeks = with_polls old.seeks } else old) new → Stays old new
if_stays true old new was = record { dor = was.dor; rate = was.rate; non_dma = was.non_dma; polling = was.polling; command = was.command; data_commands = was.data_commands; on = was.on; threshold = was.threshold; few = was.few }
if_stays false old new was = was

pub polled_stays : (old polls new : Fdc) → polls ≡ polled old → Stays polls new → Stays old new
polled_stays old polls new is was = if_stays (old.poll_due && not (is_held old)) old new (subst (λ fdc. Stays fdc new) is was)
