-- Change lines of empty drives, call by call.
use Rattle.std.proofs.Common.{◌≡◌, inl, inr, ℕ, zero, suc, ◌≤◌, Bool, true, false, Option, Some, None, is_some, if◌then◌else◌, refl, sym, ◌∙◌, ap, subst, arith}
use Rattle.laws_machine.proofs.Common.{Disk, DriveState, Pulses, Moves, Fdc, Board, controller_of, drive_in, irq_taken, FollowsWrite, Inputs, Outputs, WritesPort, Step, write_leaves, TurnsOn, regapped, Steady, read_from, loaded, unloaded, AreSetIfEmpty, IsEmpty, IsNew, IsSetIfEmpty, Touches, byte_set, FollowsMotor}
use Rattle.irq_events.specs.declared.pace.Pace.{Pace}
use Rattle.pc_bus.specs.Calls.{AreCalled, IsCalled, ByEject, ByExchange, ByInb, ByInsert, ByOutb, ByRamSet, ByRefusal, ByTakeIrq, ByWait, ByWaitIrq}
use Rattle.pc_bus.specs.declared.bus.Bus.{Bus}
use Rattle.laws_machine.proofs.OnAwaits.Turning.{on_calm, on_let, on_time}
use Rattle.laws_machine.proofs.OnSteps.Runs.{inputs, outputs, wait, waits}
use Rattle.laws_machine.proofs.OnSteps.Drives.{both}

-- ---- a drive

-- an empty drive was empty before, and its change line is as it was
abbrev pub LeavesEmpty : DriveState → DriveState → Type 0
LeavesEmpty old new = new.medium ≡ None → (old.medium ≡ None) × (new.change ≡ old.change)

set_on : (old new : DriveState) → LeavesEmpty old new → IsSetIfEmpty old → IsSetIfEmpty new
set_on old new leaves set none = let (was, same) = leaves none in same ∙ set was

leaves_on : (a b c : DriveState) → LeavesEmpty a b → LeavesEmpty b c → LeavesEmpty a c
leaves_on a b c one two none =
    let (between, later) = two none in
    let (was, same) = one between in
    (was, later ∙ same)

leaves_same : (old new : DriveState) → new.medium ≡ old.medium → new.change ≡ old.change → LeavesEmpty old new
leaves_same old new medium change none = (sym medium ∙ none, change)

none_in : (medium : Option Disk) → is_some medium ≡ false → medium ≡ None
none_in None empty = refl
none_in (Some disk) wrong = absurd cc

leaves_turned : (old new : DriveState) → TurnsOn old new → LeavesEmpty old new
leaves_turned old new turns none = (none_in old.medium (sym turns.stays_in ∙ ap is_some none), turns.change)

leaves_pulsed : (inward : Bool) (old new : DriveState) → Pulses inward old new → LeavesEmpty old new
leaves_pulsed inward old new (inl moves) none =
    let was : old.medium ≡ None = sym (ap (λ s. s.medium) moves.becomes) ∙ none in
    (was, ap (λ s. s.change) moves.becomes ∙ ap (λ m. if is_some m then false else old.change) was)
leaves_pulsed inward old new (inr (stays, rose)) none = leaves_same old new (ap (λ s. s.medium) stays.becomes) (ap (λ s. s.change) stays.becomes) none

-- ---- the word time

leaves_moved : (pulse : Option Bool) (old new : DriveState) → Moves pulse old new → LeavesEmpty old new
leaves_moved None old new is = leaves_turned old new (on_calm old new is)
leaves_moved (Some inward) old new (between, pulses, is) =
    leaves_on old between new (leaves_pulsed inward old between pulses) (leaves_turned between new (on_calm between new is))

-- ---- device steps

lines_on : (old new : Board) → LeavesEmpty old.first new.first → LeavesEmpty old.second new.second → AreSetIfEmpty old → AreSetIfEmpty new
lines_on old new first second was = record { first = set_on old.first new.first first was.first; second = set_on old.second new.second second was.second }

pub step_lines : (old new : Board) → Step old new → AreSetIfEmpty old → AreSetIfEmpty new
step_lines old new step =
    let (first, second) = both LeavesEmpty leaves_moved (λ before after heard. leaves_turned before after (on_let before after heard))
    (λ time rate head before after is. leaves_turned before after (on_time time rate head before after is)) old new step in
    lines_on old new first second

lines_beside : (bus : Bus) (old : Board) → AreSetIfEmpty old → AreSetIfEmpty (record old { bus = bus })
lines_beside bus old was = record { first = was.first; second = was.second }

pub showing : Steady AreSetIfEmpty
showing = record { step = step_lines; idle = λ old gaps fresh. lines_beside (regapped gaps fresh old).bus old }

-- ---- port accesses

input_lines : (port value : ℕ) (old new : Board) → Inputs port old value new → AreSetIfEmpty old → AreSetIfEmpty new
input_lines port value old new access was = inputs AreSetIfEmpty showing port value old new (lines_beside (read_from port old).bus old was) access

leaves_followed : (port value bay : ℕ) (controller : Fdc) (before after : DriveState) → FollowsWrite port value bay controller before after → LeavesEmpty before after
leaves_followed port value bay controller before after follows = let (medium, change) = write_leaves follows in leaves_same before after medium change

written_lines : (port value : ℕ) (old between : Board) → WritesPort port value old between → AreSetIfEmpty old → AreSetIfEmpty between
written_lines port value old between writes =
    lines_on old between (leaves_followed port value 0 writes.chips.controller old.first between.first writes.lines.first)
    (leaves_followed port value 1 writes.chips.controller old.second between.second writes.lines.second)

output_lines : (port value : ℕ) (old new : Board) → Outputs port value old new → AreSetIfEmpty old → AreSetIfEmpty new
output_lines port value old new access was =
    outputs AreSetIfEmpty showing port value old new (λ between writes. written_lines port value old between writes was) access

-- ---- media and drives

-- the drive in a bay is set in this way, and the other one stays
handled_lines : (bay : ℕ) (old new : Board) → bay ≤ 1 → Touches bay old new → (IsSetIfEmpty (drive_in old bay) → IsSetIfEmpty (drive_in new bay)) → AreSetIfEmpty old → AreSetIfEmpty new
handled_lines zero old new small touches goes was = record { first = goes was.first; second = subst IsSetIfEmpty (sym touches.other) was.second }
handled_lines (suc zero) old new small touches goes was = record { first = subst IsSetIfEmpty (sym touches.other) was.first; second = goes was.second }
handled_lines (suc (suc bay)) old new small touches goes was = absurd (omega arith)

put_set : (medium : Disk) (old new : DriveState) → new ≡ loaded medium old → IsSetIfEmpty old → IsSetIfEmpty new
put_set medium old new is was none = ap (λ s. s.change) is

kept_set : (old new : DriveState) → new ≡ old → IsSetIfEmpty old → IsSetIfEmpty new
kept_set old new same was = subst IsSetIfEmpty (sym same) was

taken_line : (medium : Option Disk) (change : Bool) → (medium ≡ None → change ≡ true) → (if is_some medium then true else change) ≡ true
taken_line None change set = set refl
taken_line (Some disk) change set = refl

taken_set : (old new : DriveState) → new ≡ unloaded old → IsSetIfEmpty old → IsSetIfEmpty new
taken_set old new is was none = ap (λ s. s.change) is ∙ taken_line old.medium old.change was

exchanged_set : (bay : ℕ) (controller : Fdc) (drive new : DriveState) → IsEmpty drive → FollowsMotor bay controller drive new → IsSetIfEmpty new
exchanged_set bay controller drive new empty (on, line, is) none = ap (λ s. s.change) is ∙ empty.change

-- ---- every call

bus_lines : (bus : Bus) (old new : Board) → new ≡ record old { bus = bus } → AreSetIfEmpty old → AreSetIfEmpty new
bus_lines bus old new is was = subst AreSetIfEmpty (sym is) (lines_beside bus old was)

pub call_lines : (old new : Board) → IsCalled old new → AreSetIfEmpty old → AreSetIfEmpty new
call_lines old new (ByInb port value access) was = input_lines port value old new access was
call_lines old new (ByOutb port value access) was = output_lines port value old new access was
call_lines old new (ByWait steps runs) was = wait AreSetIfEmpty showing steps old new runs was
call_lines old new (ByWaitIrq most set taken) was = waits AreSetIfEmpty showing most set old new taken was
call_lines old new (ByTakeIrq is) was = bus_lines (irq_taken old.bus) old new is was
call_lines old new (ByRamSet address value is) was = bus_lines (byte_set address value old.bus) old new is was
call_lines old new (ByInsert bay medium small touches becomes) was = handled_lines bay old new small touches (put_set medium (drive_in old bay) (drive_in new bay) becomes) was
call_lines old new (ByRefusal bay small touches becomes) was = handled_lines bay old new small touches (kept_set (drive_in old bay) (drive_in new bay) becomes) was
call_lines old new (ByEject bay small touches becomes) was = handled_lines bay old new small touches (taken_set (drive_in old bay) (drive_in new bay) becomes) was
call_lines old new (ByExchange bay drive small empty touches follows) was =
    handled_lines bay old new small touches (λ _. exchanged_set bay (controller_of old) drive (drive_in new bay) empty follows) was

pub calls_lines : (calls : ℕ) (old new : Board) → AreCalled calls old new → AreSetIfEmpty old → AreSetIfEmpty new
unfolding AreCalled
calls_lines zero old new same was = subst AreSetIfEmpty (sym same) was
calls_lines (suc calls) old new (between, before, call) was = call_lines between new call (calls_lines calls old between before was)

pub new_lines : (pace : Pace) (bay0 bay1 : DriveState) (new : Board) → IsEmpty bay0 → IsEmpty bay1 → IsNew pace bay0 bay1 new → AreSetIfEmpty new
new_lines pace bay0 bay1 new first second made = record {
  first = λ none. ap (λ s. s.change) made.first ∙ first.change;
  second = λ none. ap (λ s. s.change) made.second ∙ second.change;
}
