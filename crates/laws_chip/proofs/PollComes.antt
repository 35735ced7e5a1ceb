-- The poll of a reset, in the inner controller: once it has come, it isn't to come until the next reset.
use Rattle.std.proofs.Common.{◌≡◌, inl, inr, ℕ, ◌+◌, ◌-◌, ◌==◌, Bool, true, false, not, ◌&&◌, if◌then◌else◌, [], Option, Some, None, length, bit_and, refl, ◌∙◌, ap, subst}
use Rattle.laws_chip.proofs.Common.{eqb-true, false≢true, DriveState, at_index, Fifo, has_ended_seek, seek_bits, sensed, with_polls, without_ended, Command, ReadOutcome, SearchOutcome, needs_byte, Ending, Done, Overrun, FormatNext, WriteNext, ending_of, is_listening, Phase, Execute, Task, Format, Formatting, Reading, Writing, BeginsData, ObeysAtRest, TakesAs, sensing_by, told_count, FormatDoes, after_laid, ExecutesIn, ExecutesTask, is_executing, resets, after_heard, after_searched, at_stage, gone_on_reading, is_full, over_or_on, pushed, finished, is_held, RestsIn, polled, FormatsNowhere, StepsNowhere, TaskStepsNowhere, WritesNowhere, WordTime, Wrote, Stopped, ending_told, given_up, given_up_if, looked_at, mark_of, without_seek, WritesIn, WritesTask, WriteDoes, after_next, without_byte, Fdc, Lines, AdapterState, StepsAdapter, lines_at, BeginsSector, Front, GivesFront, StartsIf, TakesFront, WritesFront, begun_if, count_told, told_front, told_if, with_controller, CommandsIf, GivesCommand, GivesTransfer, is_ready, results_taken, taken_at, EndsIf, EndsSector, FollowsStep, MovesOn, SeeksOn, StepsFront, goes_on, has_met_other, is_unwanted, judged_if, passed_over_if, command_of, next_of, MovingSector, FrontStage, Through, Seeking, Moving, Transfer, ReadyCommand as Ready, FdcObeys as Obeys, ReadTask as Read, TaskReadId as ReadId, WriteTask as Write, FrontTransfersIf as TransfersIf}
use Rattle.fdc_commands.specs.declared.bytes.Accepted.{Accepted}
use Rattle.fdc_core.specs.Commands.{Begins}
use Rattle.laws_chip.proofs.Known.{at_drive, polled_phase}
use Rattle.laws_chip.proofs.Channels.{port_left}
use Rattle.laws_chip.proofs.UnderWay.{BytePasses, Own, OfSector, Quiet, either_way, gives_pass, takes_pass}
use Rattle.fdc_commands.specs.declared.command.Command.TheVariants as command
use Rattle.fdc_stages.specs.Readings as heard
use Rattle.fdc_stages.specs.Searches as searched
use Rattle.fdc_stages.specs.declared.formatting.FormatNext.TheVariants as format_next
use Rattle.fdc_stages.specs.declared.writing.WriteNext.TheVariants as write_next

-- ---- a command of the controller's own

abbrev due : Fdc → Bool
due fdc = fdc.poll_due

data_poll : (command : Command) (old new : Fdc) → BeginsData command old new → due old ≡ false → due new ≡ false
data_poll (command.ReadId head_drive) old new (task, kind, waits, is) none = ap due is ∙ none
data_poll (command.ReadData head_drive key last_sector gap length) old new (task, kind, waits, is) none = ap due is ∙ none
data_poll (command.WriteData head_drive key last_sector gap length) old new (task, kind, waits, is) none = ap due is ∙ none
data_poll (command.WriteDeleted head_drive key last_sector gap length) old new (task, kind, waits, is) none = ap due is ∙ none
data_poll (command.FormatTrack head_drive n sectors gap fill) old new (task, kind, waits, is) none = ap due is ∙ none
data_poll _ old new is none = ap due is ∙ none

begins_poll : (command : Command) (old new : Fdc) → Begins command old new → due old ≡ false → due new ≡ false
begins_poll command old new (refused, begins) none = either_way old.non_dma
    (λ set. ap due (refused set) ∙ none)
    (λ clear. data_poll command old new (begins clear) none)

sensing_poll : (result : Option (ℕ × ℕ)) (old : Fdc) → due (sensing_by result old) ≡ due old
sensing_poll None old = refl
sensing_poll (Some (status, cylinder)) old = refl

still_false : (b was : Bool) → was ≡ false → (if b then was else false) ≡ false
still_false true was none = none
still_false false was none = refl

rest_poll : (command : Command) (lines : Lines) (old new : Fdc) → ObeysAtRest command lines old new → due old ≡ false → due new ≡ false
rest_poll command.SenseInterrupt lines old new is none = ap due is ∙ (sensing_poll (sensed old.seeks) old ∙ none)
rest_poll (command.Configure zero options precompensation) lines old new is none = ap due is ∙ still_false (bit_and options 0x10 == 0) old.poll_due none
rest_poll (command.ReadId head_drive) lines old new begins none = begins_poll (command.ReadId head_drive) old new begins none
rest_poll (command.ReadData head_drive key last_sector gap length) lines old new begins none = begins_poll (command.ReadData head_drive key last_sector gap length) old new begins none
rest_poll (command.WriteData head_drive key last_sector gap length) lines old new begins none = begins_poll (command.WriteData head_drive key last_sector gap length) old new begins none
rest_poll (command.WriteDeleted head_drive key last_sector gap length) lines old new begins none = begins_poll (command.WriteDeleted head_drive key last_sector gap length) old new begins none
rest_poll (command.FormatTrack head_drive n sectors gap fill) lines old new begins none = begins_poll (command.FormatTrack head_drive n sectors gap fill) old new begins none
rest_poll _ lines old new is none = ap due is ∙ none

either_poll : (command : Command) (lines : Lines) (old new : Fdc)
    → (seek_bits old.seeks ≡ 0 → ObeysAtRest command lines old new) × ((seek_bits old.seeks == 0) ≡ false → due new ≡ due old) → due old ≡ false → due new ≡ false
either_poll command lines old new (rests, moves) none = either_way (seek_bits old.seeks == 0)
    (λ here. rest_poll command lines old new (rests (eqb-true (seek_bits old.seeks) 0 here)) none)
    (λ other. moves other ∙ none)

obeys_poll : (command : Command) (lines : Lines) (old new : Fdc) → Obeys command lines old new → due old ≡ false → due new ≡ false
obeys_poll command.SenseInterrupt lines old new is none = ap due is ∙ (sensing_poll (sensed old.seeks) old ∙ none)
obeys_poll command lines old new (rests, moves) none = either_poll command lines old new (rests, λ other. ap due (moves other)) none

accepted_poll : (accepted : Accepted) (lines : Lines) (old new : Fdc) → TakesAs accepted lines old new → due old ≡ false → due new ≡ false
accepted_poll (Ready command) lines old new obeys none = obeys_poll command lines old new obeys none
accepted_poll _ lines old new is none = ap due is ∙ none

-- ---- a device step of what is executed

searched_poll : (head_drive steps : ℕ) (after : SearchOutcome) (old : Fdc) → due (after_searched head_drive steps after old) ≡ due old
searched_poll head_drive steps (searched.On search) old = refl
searched_poll head_drive steps _ old = refl

on_poll : (head_drive steps : ℕ) (reading : Reading) (old : Fdc) → due (gone_on_reading head_drive steps reading old) ≡ due old
on_poll head_drive steps reading old = by_ending (ending_of reading) (length old.fifo.bytes == 0)
  where
    by_ending : (ending : Option Ending) (empty : Bool) → due (over_or_on ending empty head_drive steps reading old) ≡ due old
    by_ending None empty = refl
    by_ending (Some ending) true = refl
    by_ending (Some ending) false = refl

heard_poll : (head_drive steps : ℕ) (reading : Reading) (after : ReadOutcome) (old : Fdc) → due (after_heard head_drive steps reading after old) ≡ due old
heard_poll head_drive steps reading (heard.On stage) old = on_poll head_drive steps (at_stage reading stage) old
heard_poll head_drive steps reading (heard.Byte stage value) old = by_count reading.counted (is_full old)
  where
    by_count : (counted full : Bool) → due (if counted then gone_on_reading head_drive steps (at_stage reading stage) old
        else (if full then finished Overrun head_drive reading.wanted.key old else gone_on_reading head_drive steps (at_stage reading stage) (pushed value old))) ≡ due old
    by_count true full = on_poll head_drive steps (at_stage reading stage) old
    by_count false true = refl
    by_count false false = on_poll head_drive steps (at_stage reading stage) (pushed value old)
heard_poll head_drive steps reading (heard.Ended ending) old = refl

next_poll : (head_drive steps : ℕ) (writing : Writing) (next : WriteNext) (old : Fdc) → due (after_next head_drive steps writing next old) ≡ due old
next_poll head_drive steps writing (write_next.On stage) old = refl
next_poll head_drive steps writing (write_next.Ended ending) old = refl

laid_poll : (head_drive steps : ℕ) (formatting : Formatting) (next : FormatNext) (old : Fdc) → due (after_laid head_drive steps formatting next old) ≡ due old
laid_poll head_drive steps formatting (format_next.On stage) old = refl
laid_poll head_drive steps formatting (format_next.Ended ending key) old = refl

less_poll : (needs : Bool) (old : Fdc) → due (without_byte needs old) ≡ due old
less_poll true old = refl
less_poll false old = refl

write_poll : (time : WordTime) (head_drive steps : ℕ) (writing : Writing) (old : Fdc) (before : DriveState) (new : Fdc) → WriteDoes time head_drive steps writing old before new → due new ≡ due old
write_poll (Wrote opened closed index word) head_drive steps writing old before new does =
    ap due does.after_is ∙ (next_poll head_drive (steps + 1) writing does.next (without_byte (needs_byte writing.stage) old) ∙ less_poll (needs_byte writing.stage) old)
write_poll Stopped head_drive steps writing old before new does = ap due does.after_is
write_poll _ head_drive steps writing old before new (opening, does) = ap due does.after_is ∙ next_poll head_drive (steps + 1) writing does.next old

format_poll : (time : WordTime) (head_drive steps : ℕ) (formatting : Formatting) (old : Fdc) (before : DriveState) (new : Fdc) → FormatDoes time head_drive steps formatting old before new → due new ≡ due old
format_poll (Wrote opened closed index word) head_drive steps formatting old before new does =
    ap due does.after_is ∙ (laid_poll head_drive (steps + 1) formatting does.next (without_byte does.needs old) ∙ less_poll does.needs old)
format_poll Stopped head_drive steps formatting old before new does = ap due does.after_is
format_poll _ head_drive steps formatting old before new (opening, does) = ap due does.after_is ∙ laid_poll head_drive (steps + 1) formatting does.next old

task_poll : (task : Task) (head_drive steps : ℕ) (asking : Bool) (fifo : Fifo) (index : Bool) (word : ℕ) (polls : Fdc) (before after : DriveState) (new : Fdc)
    → ExecutesTask (is_listening task) head_drive steps task index word polls new → WritesTask task head_drive steps asking fifo polls before after new → due new ≡ due polls
task_poll (ReadId search) head_drive steps asking fifo index word polls before after new (inr (few, (outcome, hears, is))) writes = ap due is ∙ searched_poll head_drive (steps + 1) outcome polls
task_poll (Read reading) head_drive steps asking fifo index word polls before after new (inr (few, (outcome, hears, is))) writes = ap due is ∙ heard_poll head_drive (steps + 1) reading outcome polls
task_poll (Write writing) head_drive steps asking fifo index word polls before after new executes writes =
    write_poll writes.step.does.time head_drive steps writing polls before new writes.step.does.does
task_poll (Format formatting) head_drive steps asking fifo index word polls before after new executes writes =
    format_poll writes.step.does.time head_drive steps formatting polls before new writes.step.does.does
task_poll _ head_drive steps asking fifo index word polls before after new (inl (last, is)) writes = ap due is

-- with a drive
works_poll : (phase : Phase) (track0 : Bool) (asking : Bool) (fifo : Fifo) (index : Bool) (word : ℕ) (polls : Fdc) (before after : DriveState) (new : Fdc) → RestsIn phase track0 polls new
    → ExecutesIn phase index word polls new → WritesIn phase asking fifo polls before after new → due new ≡ due polls
works_poll (Execute execution) track0 asking fifo index word polls before after new rests executes writes =
    task_poll execution.task execution.head_drive execution.steps asking fifo index word polls before after new executes writes
works_poll _ track0 asking fifo index word polls before after new rests executes writes = ap due rests

-- where no drive is selected
write_nowhere : (head_drive steps : ℕ) (writing : Writing) (polls new : Fdc) → WritesNowhere head_drive steps writing polls new → due new ≡ due polls
write_nowhere head_drive steps writing polls new (inl (last, is)) = ap due is
write_nowhere head_drive steps writing polls new (inr (few, (next, hears, is))) = ap due is ∙ next_poll head_drive (steps + 1) writing next polls

format_nowhere : (head_drive steps : ℕ) (formatting : Formatting) (polls new : Fdc) → FormatsNowhere head_drive steps formatting polls new → due new ≡ due polls
format_nowhere head_drive steps formatting polls new (inl (last, is)) = ap due is
format_nowhere head_drive steps formatting polls new (inr (few, (next, hears, is))) = ap due is ∙ laid_poll head_drive (steps + 1) formatting next polls

task_nowhere : (task : Task) (head_drive steps : ℕ) (polls new : Fdc) → TaskStepsNowhere task head_drive steps polls new → due new ≡ due polls
task_nowhere (ReadId search) head_drive steps polls new (inr (few, (outcome, hears, is))) = ap due is ∙ searched_poll head_drive (steps + 1) outcome polls
task_nowhere (Read reading) head_drive steps polls new (inr (few, (outcome, hears, is))) = ap due is ∙ heard_poll head_drive (steps + 1) reading outcome polls
task_nowhere (Write writing) head_drive steps polls new does = write_nowhere head_drive steps writing polls new does
task_nowhere (Format formatting) head_drive steps polls new does = format_nowhere head_drive steps formatting polls new does
task_nowhere _ head_drive steps polls new (inl (last, is)) = ap due is

alone_poll : (phase : Phase) (polls new : Fdc) → RestsIn phase false polls new → StepsNowhere phase polls new → due new ≡ due polls
alone_poll (Execute execution) polls new rests does = task_nowhere execution.task execution.head_drive execution.steps polls new does
alone_poll _ polls new rests does = ap due rests

adapter_poll : (old new : AdapterState) → StepsAdapter old new → due new.controller ≡ due (polled old.controller)
adapter_poll old new steps =
    let fdc = old.controller in
    let polls = polled fdc in
    at_drive old new steps
    (λ before after works.
    works_poll fdc.phase (before.cylinder == 0) fdc.asking fdc.fifo (at_index before) works.reads.word polls before after new.controller
    (subst (λ phase. RestsIn phase (before.cylinder == 0) polls new.controller) (polled_phase fdc) works.rests) works.reads.follows.executes works.writes)
    (λ alone. alone_poll fdc.phase polls new.controller (subst (λ phase. RestsIn phase false polls new.controller) (polled_phase fdc) alone.rests) alone.nowhere)

-- ---- ---- the front

abbrev pub awaits_poll : Front → Bool
awaits_poll front = front.adapter.controller.poll_due

told_poll : (counted : Bool) (adapter : AdapterState) → due (told_if counted adapter).controller ≡ due adapter.controller
told_poll true adapter = refl
told_poll false adapter = refl

begun_poll : (begins : Bool) (transfer : Transfer) (counted passed_over : Bool) (between : AdapterState) (old : Front) → awaits_poll (begun_if begins transfer counted passed_over between old) ≡ due between.controller
begun_poll true transfer counted passed_over between old = told_poll counted between
begun_poll false transfer counted passed_over between old = refl

sector_poll : (transfer : Transfer) (counted passed_over : Bool) (old new : Front) → BeginsSector transfer counted passed_over old new → awaits_poll old ≡ false → awaits_poll new ≡ false
sector_poll transfer counted passed_over old new begins none =
    ap awaits_poll begins.begun ∙ (begun_poll (is_executing begins.between.controller.phase) transfer counted passed_over begins.between old
    ∙ accepted_poll (looked_at (Ready (command_of transfer))) (lines_at old.adapter) (record old.adapter.controller { command = [] }) begins.between.controller begins.takes.takes none)

-- ---- commands and results

starts_by : (seeks : Bool) (transfer : Transfer) (old new : Front) → StartsIf seeks transfer old new → awaits_poll old ≡ false → awaits_poll new ≡ false
starts_by true transfer old new begins none =
    ap awaits_poll begins.begun
    ∙ accepted_poll (looked_at (Ready (command.Seek transfer.head_drive transfer.key.c))) (lines_at old.adapter) (record old.adapter.controller { command = [] }) begins.between.controller begins.takes.takes none
starts_by false transfer old new begins none = sector_poll transfer false false old new begins none

transfer_by : (ready : Bool) (transfer : Transfer) (old new : Front) → TransfersIf ready transfer old new → awaits_poll old ≡ false → awaits_poll new ≡ false
transfer_by true transfer old new starts none = starts_by transfer.seeks transfer old new starts none
transfer_by false transfer old new is none = ap awaits_poll is ∙ none

command_by : (ready : Bool) (given : Command) (old new : Front) → CommandsIf ready given old new → awaits_poll old ≡ false → awaits_poll new ≡ false
command_by true given old new commands none =
    ap awaits_poll commands.after
    ∙ accepted_poll (looked_at (Ready given)) (lines_at old.adapter) (record old.adapter.controller { command = [] }) commands.between.controller commands.takes.takes none
command_by false given old new is none = ap awaits_poll is ∙ none

-- a command of several sectors is given, or another one
pub transfer_poll : (transfer : Transfer) (old new : Front) → GivesTransfer transfer old new → awaits_poll old ≡ false → awaits_poll new ≡ false
transfer_poll transfer old new gives none = transfer_by (is_ready old) transfer old new gives none

pub command_poll : (given : Command) (old new : Front) → GivesCommand given old new → awaits_poll old ≡ false → awaits_poll new ≡ false
command_poll given old new gives none = command_by (is_ready old) given old new gives none

-- a port is written
pub writes_poll : (port value : ℕ) (old new : Front) → WritesFront port value old new → resets port value ≡ false → awaits_poll old ≡ false → awaits_poll new ≡ false
writes_poll port value old new writes quiet none = either_way (port == 0x3F5)
    (λ here. ap awaits_poll (writes.bytes (eqb-true port 0x3F5 here)) ∙ none)
    (λ other. (port_left port value (lines_at old.adapter) old.adapter.controller new.adapter.controller (writes.others other).0.writes other quiet).poll ∙ none)

given_up_poll : (ending : Option Ending) (old : Fdc) → due (given_up_if ending old) ≡ due old
given_up_poll None old = refl
given_up_poll (Some ending) old = refl

taken_poll : (stage : FrontStage) (old : Front) → awaits_poll (taken_at stage old) ≡ awaits_poll old
taken_poll Through old = given_up_poll (ending_told old.adapter.controller) old.adapter.controller
taken_poll _ old = refl

-- results are taken
pub results_poll : (old : Front) → awaits_poll (results_taken old) ≡ awaits_poll old
results_poll old = taken_poll old.stage old

-- ---- the channel

-- after the last byte of a sector the controller is given the terminal count
passed_poll : (last : Bool) (fdc : Fdc) → due (if last then told_count fdc else fdc) ≡ due fdc
passed_poll true fdc = refl
passed_poll false fdc = refl

byte_poll : (old new : Front) → BytePasses old new → awaits_poll new ≡ awaits_poll old
byte_poll old new (Quiet is) = ap awaits_poll is
byte_poll old new (Own fdc at passed is) = ap awaits_poll is ∙ passed.poll
byte_poll old new (OfSector moving fdc at passed is) = ap awaits_poll is ∙ (passed_poll (moving.left - 1 == 0) fdc ∙ passed.poll)

pub takes_poll : (old : Front) (byte : Option ℕ) (new : Front) → TakesFront old byte new → awaits_poll new ≡ awaits_poll old
takes_poll old byte new takes = byte_poll old new (takes_pass old.stage byte old new refl takes)

pub gives_poll : (byte : ℕ) (old : Front) (was : Bool) (new : Front) → GivesFront byte old was new → awaits_poll new ≡ awaits_poll old
gives_poll byte old was new gives = byte_poll old new (gives_pass old.stage byte was old new refl gives)

counted_poll : (stage : FrontStage) (old : Front) → awaits_poll (count_told stage old) ≡ awaits_poll old
counted_poll Through old = refl
counted_poll _ old = refl

-- the terminal count comes
pub counts_poll : (old : Front) → awaits_poll (told_front old) ≡ awaits_poll old
counts_poll old = counted_poll old.stage old

-- ---- a device step

forgotten_poll : (over : Bool) (old : Fdc) → due (if over then record old { seeks = without_ended old.seeks; interrupt = false } else old) ≡ due old
forgotten_poll true old = refl
forgotten_poll false old = refl

seeks_poll : (over : Bool) (transfer : Transfer) (counted : Bool) (old new : Front) → SeeksOn over transfer counted old new → awaits_poll old ≡ false → awaits_poll new ≡ false
seeks_poll true transfer counted old new begins none =
    let fdc = old.adapter.controller in
    sector_poll transfer counted false (record old { adapter = with_controller (without_seek fdc) old.adapter }) new begins (forgotten_poll (has_ended_seek fdc.seeks) fdc ∙ none)
seeks_poll false transfer counted old new is none = ap awaits_poll is ∙ none

done_poll : (goes : Bool) (moving : MovingSector) (deleted : Bool) (old new : Front) → EndsIf goes moving deleted old new → awaits_poll old ≡ false → awaits_poll new ≡ false
done_poll true moving deleted old new begins none = sector_poll (next_of moving.transfer) false (has_met_other moving deleted) old new begins none
done_poll false moving deleted old new is none = ap awaits_poll is ∙ none

ends_poll : (mark : Option Bool) (moving : MovingSector) (ending : Ending) (old new : Front) → EndsSector mark moving ending old new → awaits_poll old ≡ false → awaits_poll new ≡ false
ends_poll mark moving (Done deleted) old new ends none = done_poll (goes_on moving deleted) moving deleted old new ends none
ends_poll mark moving _ old new is none = ap awaits_poll is ∙ none

over_poll : (unwanted : Bool) (moving : MovingSector) (old : Front) → awaits_poll (passed_over_if unwanted moving old) ≡ awaits_poll old
over_poll true moving old = refl
over_poll false moving old = refl

moves_poll : (mark : Option Bool) (ending : Option Ending) (moving : MovingSector) (old new : Front) → MovesOn mark ending moving old new → awaits_poll old ≡ false → awaits_poll new ≡ false
moves_poll mark (Some ending) moving old new ends none =
    let fdc = old.adapter.controller in
    ends_poll mark moving ending (record old { adapter = with_controller (given_up fdc) old.adapter }) new ends (given_up_poll (ending_told fdc) fdc ∙ none)
moves_poll mark None moving old new is none = ap awaits_poll is ∙ (over_poll (is_unwanted moving (mark_of old.adapter.controller)) moving old ∙ none)

follows_poll : (mark : Option Bool) (stage : FrontStage) (old new : Front) → FollowsStep mark stage old new → awaits_poll old ≡ false → awaits_poll new ≡ false
follows_poll mark (Seeking transfer counted) old new seeks none = seeks_poll (has_ended_seek old.adapter.controller.seeks) transfer counted old new seeks none
follows_poll mark (Moving moving) old new moves none = moves_poll mark (judged_if moving (ending_told old.adapter.controller)) moving old new moves none
follows_poll mark _ old new is none = ap awaits_poll is ∙ none

-- the poll has come after a device step, if it came before or DOR doesn't hold the controller in reset
pub step_poll : (old new : Front) → StepsFront old new → (awaits_poll old && not (is_held old.adapter.controller)) ≡ awaits_poll old → awaits_poll new ≡ false
step_poll old new step comes =
    follows_poll (mark_of old.adapter.controller) old.stage (record old { adapter = step.between }) new step.follows (adapter_poll old.adapter step.between step.steps ∙ by_poll (awaits_poll old) (awaits_poll old && not (is_held old.adapter.controller)) comes refl)
  where
    by_poll : (was comes : Bool) → comes ≡ was → awaits_poll old ≡ was
        → due (if comes then record old.adapter.controller { poll_due = false; interrupt = true; seeks = with_polls old.adapter.controller.seeks } else old.adapter.controller) ≡ false
    by_poll true true same is = refl
    by_poll true false same is = absurd (false≢true same)
    by_poll false true same is = refl
    by_poll false false same is = is
