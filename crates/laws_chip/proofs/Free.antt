-- Which command for a sector is refused: none, if the controller is free for it. What keeps the controller free.
use Rattle.std.proofs.Common.{◌≡◌, inl, inr, ℕ, zero, suc, ◌+◌, nat_le, Bool, true, false, ◌&&◌, ◌==◌, if◌then◌else◌, Option, Some, None, List, length, refl, sym, ◌∙◌, ap, subst, slice_set}
use Rattle.laws_chip.proofs.Common.{and_from, false≢true, le-leb, Chrn, IsSizeCode, DriveState, at_index, Fifo, has_ended_seek, seek_bits, without_ended, Invalid, Command, ReadData, WriteData, WriteDeleted, Past, ReadOutcome, needs_byte, Ending, Overrun, WriteNext, On, MayReadIn, MayReadTask, Sent, ending_of, is_listening, MayWriteIn, MayWriteTask, Phase, Taking, Execute, Result, Task, ReadTask, WriteTask, Reading, Writing, BeginsData, TakesAs, ExecutesIn, ExecutesTask, StepsOn, is_executing, Writes, resets, after_heard, at_stage, gone_on_reading, is_full, over_or_on, pushed, finished, polled, StepsNowhere, TaskStepsNowhere, WritesNowhere, WordTime, Saw, KeptOut, Wrote, Stopped, TakesWhole, ending_told, given_up, given_up_if, without_seek, WritesIn, WritesTask, WriteDoes, after_next, without_byte, Fdc, Lines, AdapterState, StepsAdapter, command_for, command_of, next_cylinder, next_of, next_record, other_head, Operation, Read, Write, Transfer, IsFree, MayMove, sector_after, Seeks as Seeking, ReadyCommand as Ready, DriveSeek as Seek, FdcObeys as Obeys, WriteNextEnded as Ended}
use Rattle.laws_chip.proofs.Known.{adapter_stays, at_drive, polled_by, port_same}
use Rattle.laws_chip.proofs.Started.{without_bytes}
use Rattle.fdc_stages.specs.Readings as heard

-- ---- a device step leaves the seeks, while a command for a sector is executed

on_seeks : (head_drive steps : ℕ) (reading : Reading) (old : Fdc) → (gone_on_reading head_drive steps reading old).seeks ≡ old.seeks
on_seeks head_drive steps reading old = by_ending (ending_of reading) (length old.fifo.bytes == 0)
  where
    by_ending : (ending : Option Ending) (empty : Bool) → (over_or_on ending empty head_drive steps reading old).seeks ≡ old.seeks
    by_ending None empty = refl
    by_ending (Some ending) true = refl
    by_ending (Some ending) false = refl

heard_seeks : (head_drive steps : ℕ) (reading : Reading) (after : ReadOutcome) (old : Fdc) → (after_heard head_drive steps reading after old).seeks ≡ old.seeks
heard_seeks head_drive steps reading (heard.On stage) old = on_seeks head_drive steps (at_stage reading stage) old
heard_seeks head_drive steps reading (heard.Byte stage value) old = by_count reading.counted (is_full old)
  where
    by_count : (counted full : Bool) → (if counted then gone_on_reading head_drive steps (at_stage reading stage) old
        else (if full then finished Overrun head_drive reading.wanted.key old else gone_on_reading head_drive steps (at_stage reading stage) (pushed value old))).seeks ≡ old.seeks
    by_count true full = on_seeks head_drive steps (at_stage reading stage) old
    by_count false true = refl
    by_count false false = on_seeks head_drive steps (at_stage reading stage) (pushed value old)
heard_seeks head_drive steps reading (heard.Ended ending) old = refl

next_seeks : (head_drive steps : ℕ) (writing : Writing) (next : WriteNext) (old : Fdc) → (after_next head_drive steps writing next old).seeks ≡ old.seeks
next_seeks head_drive steps writing (On stage) old = refl
next_seeks head_drive steps writing (Ended ending) old = refl

pub without_seeks : (needs : Bool) (old : Fdc) → (without_byte needs old).seeks ≡ old.seeks
without_seeks true old = refl
without_seeks false old = refl

reading_seeks : (head_drive steps : ℕ) (reading : Reading) (index : Bool) (word : ℕ) (polls new : Fdc) → StepsOn head_drive steps (ReadTask reading) index word polls new → new.seeks ≡ polls.seeks
reading_seeks head_drive steps reading index word polls new (inl (last, is)) = ap (λ fdc. fdc.seeks) is
reading_seeks head_drive steps reading index word polls new (inr (few, (after, hears, is))) = ap (λ fdc. fdc.seeks) is ∙ heard_seeks head_drive (steps + 1) reading after polls

read_seeks : (past : Past) (sent : Sent) (phase : Phase) (asking : Bool) (fifo : List ℕ) (index : Bool) (word : ℕ) (polls new : Fdc) → is_executing phase ≡ true → ExecutesIn phase index word polls new
    → MayReadIn past sent phase asking fifo → new.seeks ≡ polls.seeks
read_seeks past sent Taking asking fifo index word polls new busy executes was = absurd was
read_seeks past sent (Result answer) asking fifo index word polls new busy executes was = absurd (false≢true busy)
read_seeks past sent (Execute execution) asking fifo index word polls new busy executes was = in_task execution.task execution.head_drive execution.steps executes was
  where
    in_task : (task : Task) (head_drive steps : ℕ) → ExecutesTask (is_listening task) head_drive steps task index word polls new → MayReadTask past sent head_drive steps task asking fifo → new.seeks ≡ polls.seeks
    in_task (ReadTask reading) head_drive steps executes was = reading_seeks head_drive steps reading index word polls new executes
    in_task _ head_drive steps executes was = absurd was

written_seeks : (time : WordTime) (head_drive steps : ℕ) (writing : Writing) (old : Fdc) (before : DriveState) (new : Fdc) → WriteDoes time head_drive steps writing old before new → new.seeks ≡ old.seeks
written_seeks (Saw index word) head_drive steps writing old before new (due, does) = ap (λ fdc. fdc.seeks) does.after_is ∙ next_seeks head_drive (steps + 1) writing does.next old
written_seeks (KeptOut index word) head_drive steps writing old before new (first, does) = ap (λ fdc. fdc.seeks) does.after_is ∙ next_seeks head_drive (steps + 1) writing does.next old
written_seeks (Wrote opened closed index word) head_drive steps writing old before new does =
    ap (λ fdc. fdc.seeks) does.after_is
    ∙ (next_seeks head_drive (steps + 1) writing does.next (without_byte (needs_byte writing.stage) old) ∙ without_seeks (needs_byte writing.stage) old)
written_seeks Stopped head_drive steps writing old before new does = ap (λ fdc. fdc.seeks) does.after_is

write_seeks : (deleted : Bool) (past : Past) (sent : Sent) (phase : Phase) (asking : Bool) (fifo : Fifo) (polls : Fdc) (before after : DriveState) (new : Fdc) → is_executing phase ≡ true
    → WritesIn phase asking fifo polls before after new → MayWriteIn past sent deleted phase asking fifo → new.seeks ≡ polls.seeks
write_seeks deleted past sent Taking asking fifo polls before after new busy writes was = absurd was
write_seeks deleted past sent (Result answer) asking fifo polls before after new busy writes was = absurd (false≢true busy)
write_seeks deleted past sent (Execute execution) asking fifo polls before after new busy writes was = in_task execution.task execution.head_drive execution.steps writes was
  where
    in_task : (task : Task) (head_drive steps : ℕ) → WritesTask task head_drive steps asking fifo polls before after new → MayWriteTask past sent deleted head_drive steps task asking fifo → new.seeks ≡ polls.seeks
    in_task (WriteTask writing) head_drive steps writes was = written_seeks writes.step.does.time head_drive steps writing polls before new writes.step.does.does
    in_task _ head_drive steps writes was = absurd was

-- where no drive is selected
nowhere_seeks : (deleted : Bool) (past : Past) (sent : Sent) (phase : Phase) (asking : Bool) (fifo : Fifo) (polls new : Fdc) → is_executing phase ≡ true → StepsNowhere phase polls new
    → MayWriteIn past sent deleted phase asking fifo → new.seeks ≡ polls.seeks
nowhere_seeks deleted past sent Taking asking fifo polls new busy does was = absurd was
nowhere_seeks deleted past sent (Result answer) asking fifo polls new busy does was = absurd (false≢true busy)
nowhere_seeks deleted past sent (Execute execution) asking fifo polls new busy does was = in_task execution.task execution.head_drive execution.steps does was
  where
    in_write : (head_drive steps : ℕ) (writing : Writing) → WritesNowhere head_drive steps writing polls new → new.seeks ≡ polls.seeks
    in_write head_drive steps writing (inl (last, is)) = ap (λ fdc. fdc.seeks) is
    in_write head_drive steps writing (inr (few, (next, hears, is))) = ap (λ fdc. fdc.seeks) is ∙ next_seeks head_drive (steps + 1) writing next polls

    in_task : (task : Task) (head_drive steps : ℕ) → TaskStepsNowhere task head_drive steps polls new → MayWriteTask past sent deleted head_drive steps task asking fifo → new.seeks ≡ polls.seeks
    in_task (WriteTask writing) head_drive steps does was = in_write head_drive steps writing does
    in_task _ head_drive steps does was = absurd was

step_seeks : (operation : Operation) (past : Past) (sent : Sent) (old new : AdapterState) → StepsAdapter old new → is_executing old.controller.phase ≡ true → MayMove operation past sent old.controller
    → new.controller.seeks ≡ (polled old.controller).seeks
step_seeks (Read wanted skip) past sent old new steps busy was =
    let fdc = old.controller in
    let seeks = read_seeks past sent fdc.phase fdc.asking fdc.fifo.bytes in
    at_drive old new steps (λ before after works. seeks (at_index before) works.reads.word (polled fdc) new.controller busy works.reads.follows.executes was)
    (λ alone. seeks false 0 (polled fdc) new.controller busy alone.reads.executes was)
step_seeks (Write deleted) past sent old new steps busy was =
    let fdc = old.controller in
    at_drive old new steps
    (λ before after works. write_seeks deleted past sent fdc.phase fdc.asking fdc.fifo (polled fdc) before after new.controller busy works.writes was)
    (λ alone. nowhere_seeks deleted past sent fdc.phase fdc.asking fdc.fifo (polled fdc) new.controller busy alone.nowhere was)

-- SPECIFY's ND stays
pub step_dma : (old new : AdapterState) → StepsAdapter old new → new.controller.non_dma ≡ old.controller.non_dma
step_dma old new steps = (adapter_stays old new steps).non_dma

pub step_free : (operation : Operation) (past : Past) (sent : Sent) (old new : AdapterState) → StepsAdapter old new → is_executing old.controller.phase ≡ true → MayMove operation past sent old.controller
    → IsFree old.controller → IsFree new.controller
step_free operation past sent old new steps busy was free =
    let fdc = old.controller in
    let same = ap (λ seeks. seeks.seek) (step_seeks operation past sent old new steps busy was) ∙ polled_by (λ (polls : Fdc). polls.seeks.seek ≡ fdc.seeks.seek) fdc refl refl in
    record { rests = (ap (λ seek. seek_bits (record fdc.seeks { seek = seek })) same) ∙ free.rests; by_dma = step_dma old new steps ∙ free.by_dma }

-- ---- the results are given up, and ports

pub given_free : (old : Fdc) → IsFree old → IsFree (given_up old)
given_free old free = by_ending (ending_told old)
  where
    by_ending : (ending : Option Ending) → IsFree (given_up_if ending old)
    by_ending None = free
    by_ending (Some ending) = record { rests = free.rests; by_dma = free.by_dma }

pub port_free : (port value : ℕ) (lines : Lines) (old new : Fdc) → Writes port value lines old new → (port == 0x3F5) ≡ false → resets port value ≡ false → IsFree old → IsFree new
port_free port value lines old new writes no_byte no_reset free =
    let same = port_same port value lines old new writes no_byte no_reset in
    record { rests = ap seek_bits same.seeks ∙ free.rests; by_dma = same.non_dma ∙ free.by_dma }

-- ---- an implied seek is forgotten

none_left : (old : Seeking) → has_ended_seek old ≡ true → seek_bits (without_ended old) ≡ 0
none_left old ended = by_seek old.seek ended
  where
    by_seek : (seek : Option Seek) → has_ended_seek (record old { seek = seek }) ≡ true → seek_bits (without_ended (record old { seek = seek })) ≡ 0
    by_seek None ended = absurd (false≢true ended)
    by_seek (Some seek) ended =
        ap (λ b. seek_bits (if b then record old { seek = None; pending = slice_set old.pending seek.drive None } else record old { seek = Some seek })) ended

pub sought_free : (old : Fdc) → has_ended_seek old.seeks ≡ true → old.non_dma ≡ false → IsFree (without_seek old)
sought_free old ended clear =
    subst (λ b. IsFree (if b then record old { seeks = without_ended old.seeks; interrupt = false } else old)) (sym ended)
    (record { rests = none_left old.seeks ended; by_dma = clear })

-- ---- a command is executed

pub is_in : (n : ℕ) → IsSizeCode n → (nat_le 1 n && nat_le n 6) ≡ true
is_in n (some, few) = and_from (nat_le 1 n) (nat_le n 6) (le-leb 1 n some) (le-leb n 6 few)

module _ (head_drive : ℕ) (key : Chrn) (last_sector gap length_code : ℕ) (lines : Lines) (old new : Fdc) (sized : IsSizeCode key.n) (free : IsFree old) where
  obeyed : (command : Command) → TakesAs (if nat_le 1 key.n && nat_le key.n 6 then Ready command else Invalid) lines (without_bytes old) new → Obeys command lines (without_bytes old) new
  obeyed command takes = subst (λ b. TakesAs (if b then Ready command else Invalid) lines (without_bytes old) new) (is_in key.n sized) takes

  read_busy : Obeys (ReadData head_drive key last_sector gap length_code) lines (without_bytes old) new → is_executing new.phase ≡ true
  read_busy obeys =
      let begins : BeginsData (ReadData head_drive key last_sector gap length_code) (without_bytes old) new = (obeys.0 free.rests).1 free.by_dma in
      ap (λ fdc. is_executing fdc.phase) begins.3

  write_busy : Obeys (WriteData head_drive key last_sector gap length_code) lines (without_bytes old) new → is_executing new.phase ≡ true
  write_busy obeys =
      let begins : BeginsData (WriteData head_drive key last_sector gap length_code) (without_bytes old) new = (obeys.0 free.rests).1 free.by_dma in
      ap (λ fdc. is_executing fdc.phase) begins.3

  deleted_busy : Obeys (WriteDeleted head_drive key last_sector gap length_code) lines (without_bytes old) new → is_executing new.phase ≡ true
  deleted_busy obeys =
      let begins : BeginsData (WriteDeleted head_drive key last_sector gap length_code) (without_bytes old) new = (obeys.0 free.rests).1 free.by_dma in
      ap (λ fdc. is_executing fdc.phase) begins.3

  executes_by : (operation : Operation) → TakesWhole (Ready (command_for operation head_drive key last_sector gap length_code)) lines old new → is_executing new.phase ≡ true
  executes_by (Read wanted skip) takes = read_busy (obeyed (ReadData head_drive key last_sector gap length_code) takes)
  executes_by (Write false) takes = write_busy (obeyed (WriteData head_drive key last_sector gap length_code) takes)
  executes_by (Write true) takes = deleted_busy (obeyed (WriteDeleted head_drive key last_sector gap length_code) takes)

-- the controller executes its own command for a sector if it is free for it
pub free_executes : (at : Transfer) (lines : Lines) (old new : Fdc) → IsSizeCode at.key.n → IsFree old → TakesWhole (Ready (command_of at)) lines old new → is_executing new.phase ≡ true
free_executes at lines old new sized free takes = executes_by at.head_drive at.key at.last_sector at.gap at.length lines old new sized free at.opcode.operation takes

-- ---- sizes

-- the next sector has the same size
pub next_size : (at : Transfer) → (next_of at).key.n ≡ at.key.n
next_size at = by_place (at.key.r == at.last_sector) at.opcode.multitrack
  where
    by_place : (a b : Bool) → (if a then (if b then other_head at else next_cylinder at) else next_record at).key.n ≡ at.key.n
    by_place true true = refl
    by_place true false = refl
    by_place false b = refl

-- each sector of a command has the size of the first
pub sector_size : (n : ℕ) (first : Transfer) → (sector_after n first).key.n ≡ first.key.n
sector_size zero first = refl
sector_size (suc n) first = sector_size n (next_of first) ∙ next_size first
