-- Drives that go on turning, while words are read and written.
use Rattle.std.proofs.Common.{◌≡◌, inl, inr, ℕ, ◌≤◌, ◌&&◌, nat_lt, not, Bool, true, false, Option, Some, None, is_some, if◌then◌else◌, refl, sym, ◌∙◌, ap, subst, arith}
use Rattle.laws_machine.proofs.Common.{Disk, spends_twice, DriveState, Becomes, Writes, can_write, has_track, rewritten, turns, with_gate, let_pass, WordTime, Saw, KeptOut, Wrote, Stopped, IsTime, Opens, Closes, DataRate, Turned, TurnsOn, becomes_at, with_disk_word as with_word, Fifo, is_executing, ExecutesIn, is_listening, MovesIn, MovesTask, WritesIn, WritesTask, Fdc, Phase, Execute, Task, ReadId, Format, false≢true, ReadTask as Read, WriteTask as Write}
use Rattle.laws_machine.proofs.Facts.{if_both, spin_on}
use Rattle.laws_machine.proofs.OnQuiet.Steps.{turned_calmly, turned_let, turned_still}
use Rattle.laws_machine.proofs.OnSteps.Outcomes.{HasTime, Leaves, has_time, leaves, listened}

pub as_turned : (old new : DriveState) → Turned old new → TurnsOn old new
as_turned old new turned = record { stays_in = ap is_some turned.medium; cylinder = turned.cylinder; change = turned.change; motor = turned.motor; spin = turned.spin; never_falls = turned.faults; spends = turned.spends }

pub on_let : (old new : DriveState) → Becomes (let_pass old) old new → TurnsOn old new
on_let old new is = as_turned old new (turned_let old new is)

pub on_calm : (old new : DriveState) → new ≡ let_pass old → TurnsOn old new
on_calm old new is = as_turned old new (turned_calmly old new is)

pub on_still : (old new : DriveState) → new ≡ old → TurnsOn old new
on_still old new same = as_turned old new (turned_still old new same)

pub on_further : (a b c : DriveState) → TurnsOn a b → TurnsOn b c → TurnsOn a c
on_further a b c one two = record {
  stays_in = two.stays_in ∙ one.stays_in;
  cylinder = two.cylinder ∙ one.cylinder;
  change = two.change ∙ one.change;
  motor = two.motor ∙ one.motor;
  spin = let first = one.spin in let second = two.spin in omega arith;
  never_falls = let first = one.never_falls in let second = two.never_falls in omega arith;
  spends = spends_twice a.faults b.faults c.faults a.left b.left c.left one.spends two.spends;
}

-- a drive that becomes one with the heads, the change line and the motor of before, a medium where there was one, and
-- no less speed
on_as : (target old new : DriveState) → Becomes target old new → is_some target.medium ≡ is_some old.medium → target.cylinder ≡ old.cylinder → target.change ≡ old.change → target.motor ≡ old.motor
    → old.spin ≤ target.spin → TurnsOn old new
on_as target old new is stays_in cylinder change motor spin = record {
  stays_in = ap (λ s. is_some s.medium) is.becomes ∙ stays_in;
  cylinder = ap (λ s. s.cylinder) is.becomes ∙ cylinder;
  change = ap (λ s. s.change) is.becomes ∙ change;
  motor = ap (λ s. s.motor) is.becomes ∙ motor;
  spin = subst (λ n. old.spin ≤ n) (sym (ap (λ s. s.spin) is.becomes)) spin;
  never_falls = is.never_falls;
  spends = is.spends;
}

on_gate : (opened : Bool) (old new : DriveState) → new ≡ with_gate opened old → TurnsOn old new
on_gate opened old new is = on_as (with_gate opened old) old new (becomes_at (with_gate opened old) old new is refl refl) refl refl refl refl (omega arith)

some_rewritten : (medium : Option Disk) (c h place word : ℕ) → is_some (rewritten medium c h place word) ≡ is_some medium
some_rewritten None c h place word = refl
some_rewritten (Some disk) c h place word = if_both (not disk.protected && has_track (Some disk) c h) (Some (with_word disk c h place word)) (Some disk) (λ z. is_some z ≡ true) refl refl

some_if : (can : Bool) (medium : Option Disk) (c h place word : ℕ) → is_some (if can then rewritten medium c h place word else medium) ≡ is_some medium
some_if true medium c h place word = some_rewritten medium c h place word
some_if false medium c h place word = refl

on_written : (head word : ℕ) (old new : DriveState) → Writes head word old new → TurnsOn old new
on_written head word old new (inl wrote) = on_as _ old new wrote (some_if (can_write old) old.medium old.cylinder head old.place word) refl refl refl (spin_on (turns old && nat_lt old.spin 6250) old.spin)
on_written head word old new (inr (can, becomes, rose)) = on_as _ old new becomes refl refl refl refl (spin_on (turns old && nat_lt old.spin 6250) old.spin)

on_opened : (opened : Bool) (old new : DriveState) → Opens opened old new → TurnsOn old new
on_opened true old new becomes = on_gate true old new becomes
on_opened false old new same = on_still old new same

on_closed : (closed : Bool) (old new : DriveState) → Closes closed old new → TurnsOn old new
on_closed true old new becomes = on_gate false old new becomes
on_closed false old new same = on_still old new same

pub on_time : (time : WordTime) (rate : DataRate) (head : ℕ) (before after : DriveState) → IsTime time rate head before after → TurnsOn before after
on_time (Saw index word) rate head before after is = on_let before after is.passes
on_time (KeptOut index word) rate head before after (other, is) = on_let before after is.passes
on_time (Wrote opened closed index word) rate head before after is =
    on_further before is.from after (on_opened opened before is.from is.opens)
    (on_further is.from is.mid after (on_written head word is.from is.mid is.writes) (on_closed closed is.mid after is.closes))
on_time Stopped rate head before after is = on_calm before after is

-- ---- what a word time in execution leaves of the controller

-- ---- the word time

-- what a word time leaves of the controller and of the drive
pub record LeavesBoth (before after : DriveState) (old new : Fdc) : Type 0 where
  pub drive : TurnsOn before after
  pub controller : Leaves old new

leaves_timed : {task : Task} {head_drive steps : ℕ} {before after : DriveState} (polls new : Fdc) → HasTime task head_drive steps polls before after new → LeavesBoth before after polls new
leaves_timed polls new does = record { drive = on_time does.time _ _ _ _ does.is; controller = leaves polls new does.outcome }

task_leaves : (task : Task) (head_drive steps : ℕ) (asking : Bool) (fifo : Fifo) (index : Bool) (word : ℕ) (polls : Fdc) (before after : DriveState) (new : Fdc) → MovesTask (is_listening task) before after
    → WritesTask task head_drive steps asking fifo polls before after new → ExecutesIn (Execute (record { head_drive = head_drive; steps = steps; task = task })) index word polls new → LeavesBoth before after polls new
task_leaves (ReadId search) head_drive steps asking fifo index word polls before after new moves writes executes = record {
  drive = on_let before after moves;
  controller = leaves polls new (listened head_drive steps (ReadId search) index word polls new refl executes);
}
task_leaves (Read reading) head_drive steps asking fifo index word polls before after new moves writes executes = record {
  drive = on_let before after moves;
  controller = leaves polls new (listened head_drive steps (Read reading) index word polls new refl executes);
}
task_leaves (Write writing) head_drive steps asking fifo index word polls before after new moves writes executes =
    leaves_timed polls new (has_time (Write writing) head_drive steps asking fifo polls before after new refl writes)
task_leaves (Format formatting) head_drive steps asking fifo index word polls before after new moves writes executes =
    leaves_timed polls new (has_time (Format formatting) head_drive steps asking fifo polls before after new refl writes)

-- in execution
pub word_leaves : (phase : Phase) (asking : Bool) (fifo : Fifo) (index : Bool) (word : ℕ) (polls : Fdc) (before after : DriveState) (new : Fdc) → is_executing phase ≡ true → MovesIn phase polls before after
    → WritesIn phase asking fifo polls before after new → ExecutesIn phase index word polls new → LeavesBoth before after polls new
word_leaves (Execute execution) asking fifo index word polls before after new busy moves writes executes =
    task_leaves execution.task execution.head_drive execution.steps asking fifo index word polls before after new moves writes executes
word_leaves _ asking fifo index word polls before after new busy moves writes executes = absurd (false≢true busy)
