-- Writes of DOR: a bay is selected, and motors go on.
use Rattle.std.proofs.Common.{◌≡◌, ◌≢◌, ◌↔◌, ℕ, zero, suc, ◌%◌, ◌^◌, ◌<◌, ◌≤◌, ◌==◌, Bool, true, false, if◌then◌else◌, IsTrue, refl, sym, ◌∙◌, ap, subst, arith, ◌&&◌, not, [], ◌∷◌, ◌++◌, Some}
use Rattle.machine_commands.proofs.Common.{DriveState, Becomes, track_words, dor_written, dor_of, Fdc, Board, controller_of, Outputs, Bus, dor_with, Motors, IsBitSet, false≢true, with_gate, with_motor, becomes_at, resets, HasMotors, in_bay, InRange, has_ended, is_executing, is_held, data_commands_of, drive_in, lines_of, lines_of_drive, OnlyAsks, IsReady, IsIdle, rig_of, option_map_or, line_bits, ReadsLine, Ready, is_seeking, sensed, after_sense, answered, given, result_byte, Command, SenseInterrupt, sensing_by, Senses, TakesNumber, Rate, Disk, Two, with_bay, Bay, flags_of, flags_of_both, with_rate}
use Rattle.std.specs.Prelude.{bit_and, is_some, Option}
use Rattle.fdc_core.specs.Times.{Closes}
use Rattle.machine_commands.proofs.Idling.{IsResting, KeepsDrive, KeepsSpeed, Idles, idle_by, keeps_asking, speed_stays, change_in, drive_kept}
use Rattle.machine_commands.proofs.Accesses.{accessed, accessed_keeps, gap_idles, input_idles}
use Rattle.machine_commands.proofs.Steps.{drive_then, idles_then}
use Rattle.fdc_core.specs.Drives.Lines.{absent_lines}
use Rattle.machine_commands.proofs.Bytes.{IsListening, with_bytes, whole_at}
use Rattle.fdc_commands.specs.Table.{answer}
use Rattle.machine_commands.specs.declared.flags.BayFlags.{BayFlags}

abbrev pub motors_of : Bool → Bool → Motors
motors_of first second = record { first = first; second = second }

-- what is known of a byte of DOR with these motors and this bay
pub record IsDor (motors : Motors) (bay dor : ℕ) : Type 0 where
  pub selects : dor % 4 ≡ bay
  pub released : (bit_and dor 4 == 4) ≡ true
  pub gated : (bit_and dor 8 == 8) ≡ true
  pub first : IsTrue motors.first ↔ IsBitSet dor 4
  pub second : IsTrue motors.second ↔ IsBitSet dor 5
  pub small : dor ≤ 0x3D

set_bit : (b : Bool) (n k : ℕ) → b ≡ true → bit_and n (2 ^ k) ≢ 0 → IsTrue b ↔ IsBitSet n k
set_bit b n k on is = (λ _. is, λ _. on)

pub clear_bit : (b : Bool) (n k : ℕ) → b ≡ false → bit_and n (2 ^ k) ≡ 0 → IsTrue b ↔ IsBitSet n k
clear_bit b n k off is = (λ on. absurd (false≢true (sym off ∙ on)), λ set. absurd (set is))

is_dor_by : (a b : Bool) (bay : ℕ) → bay ≤ 1 → IsDor (motors_of a b) bay (dor_with (motors_of a b) bay)
is_dor_by false false zero small = record { selects = refl; released = refl; gated = refl; first = clear_bit false 0x0C 4 refl refl; second = clear_bit false 0x0C 5 refl refl; small = omega arith }
is_dor_by true false zero small = record { selects = refl; released = refl; gated = refl; first = set_bit true 0x1C 4 refl (λ e. omega (arith, e)); second = clear_bit false 0x1C 5 refl refl; small = omega arith }
is_dor_by false true zero small = record { selects = refl; released = refl; gated = refl; first = clear_bit false 0x2C 4 refl refl; second = set_bit true 0x2C 5 refl (λ e. omega (arith, e)); small = omega arith }
is_dor_by true true zero small = record { selects = refl; released = refl; gated = refl; first = set_bit true 0x3C 4 refl (λ e. omega (arith, e)); second = set_bit true 0x3C 5 refl (λ e. omega (arith, e)); small = omega arith }
is_dor_by false false (suc zero) small = record { selects = refl; released = refl; gated = refl; first = clear_bit false 0x0D 4 refl refl; second = clear_bit false 0x0D 5 refl refl; small = omega arith }
is_dor_by true false (suc zero) small = record { selects = refl; released = refl; gated = refl; first = set_bit true 0x1D 4 refl (λ e. omega (arith, e)); second = clear_bit false 0x1D 5 refl refl; small = omega arith }
is_dor_by false true (suc zero) small = record { selects = refl; released = refl; gated = refl; first = clear_bit false 0x2D 4 refl refl; second = set_bit true 0x2D 5 refl (λ e. omega (arith, e)); small = omega arith }
is_dor_by true true (suc zero) small = record { selects = refl; released = refl; gated = refl; first = set_bit true 0x3D 4 refl (λ e. omega (arith, e)); second = set_bit true 0x3D 5 refl (λ e. omega (arith, e)); small = omega arith }
is_dor_by a b (suc (suc bay)) small = absurd (omega arith)

pub is_dor : (motors : Motors) (bay : ℕ) → bay ≤ 1 → IsDor motors bay (dor_with motors bay)
is_dor motors bay small = is_dor_by motors.first motors.second bay small

-- ---- the controller

abbrev pub with_dor : ℕ → Fdc → Fdc
with_dor byte fdc = record fdc { dor = record { 0 = byte } }

pub dor_is_written : (fdc : Fdc) (byte : ℕ) → (bit_and byte 4 == 4) ≡ true → dor_written byte fdc ≡ with_dor byte fdc
dor_is_written fdc byte released = rw released refl

-- ---- the drives

same_truth : (a b : Bool) (P : Type 0) → (IsTrue a ↔ P) → (IsTrue b ↔ P) → a ≡ b
same_truth true false P one two = absurd (false≢true (two.1 (one.0 refl)))
same_truth false true P one two = absurd (false≢true (one.1 (two.0 refl)))
same_truth _ _ P one two = refl

-- the motor line is on or off; nothing else of the drive changed, but its speed
pub record IsSwitched (on : Bool) (old new : DriveState) : Type 0 where
  pub keeps : KeepsDrive old new
  pub motor : new.motor ≡ on
  pub spin : on ≡ true → new.spin ≡ old.spin

becomes_keeps : (to before after : DriveState) → to.medium ≡ before.medium → to.cylinder ≡ before.cylinder → to.change ≡ before.change → to.place ≡ before.place
    → Becomes to before after → KeepsDrive before after
becomes_keeps to before after medium cylinder change place becomes = record {
  medium = ap (λ d. d.medium) becomes.becomes ∙ medium;
  cylinder = ap (λ d. d.cylinder) becomes.becomes ∙ cylinder;
  change = ap (λ d. d.change) becomes.becomes ∙ change;
  place = λ inside. subst (λ n. n < track_words before.medium) (sym (ap (λ d. d.place) becomes.becomes ∙ place)) inside;
  never_falls = becomes.never_falls;
  spends = becomes.spends;
}

switched_by : (on : Bool) (before after : DriveState) → after ≡ with_motor on before → IsSwitched on before after
switched_by on before after becomes = record {
  keeps = becomes_keeps (with_motor on before) before after refl refl refl refl (becomes_at (with_motor on before) before after becomes refl refl);
  motor = ap (λ d. d.motor) becomes;
  spin = λ is. ap (λ d. d.spin) becomes ∙ ap (λ b. if b then before.spin else 0) is;
}

pub switched : (k byte : ℕ) (want : Bool) (before after : DriveState) → (IsTrue want ↔ IsBitSet byte k)
    → (on : Bool) × (IsTrue on ↔ IsBitSet byte k) × (after ≡ with_motor on before) → IsSwitched want before after
switched k byte want before after is (on, follows, becomes) =
    subst (λ b. IsSwitched b before after) (same_truth on want (IsBitSet byte k) follows is) (switched_by on before after becomes)

-- the gate is then closed, or stays as it is
switched_closed : (want closed : Bool) (a b c : DriveState) → IsSwitched want a b → Closes closed b c → IsSwitched want a c
switched_closed want true a b c is becomes = record {
  keeps = drive_then a b c is.keeps (becomes_keeps (with_gate false b) b c refl refl refl refl (becomes_at (with_gate false b) b c becomes refl refl));
  motor = ap (λ d. d.motor) becomes ∙ is.motor;
  spin = λ on. ap (λ d. d.spin) becomes ∙ is.spin on;
}
switched_closed want false a b c is same = subst (λ d. IsSwitched want a d) (sym same) is

-- ---- a write of DOR

-- what a write of DOR leaves, before the gap
pub record IsDorWritten (fdc : Fdc) (first second : Bool) (old between : Board) : Type 0 where
  pub bus : between.bus ≡ accessed fdc old.bus
  pub first_is : IsSwitched first old.first between.first
  pub second_is : IsSwitched second old.second between.second

pub dor_access : (byte : ℕ) (fdc : Fdc) (first second : Bool) (old new : Board) → (access : Outputs 0x3F2 byte old new) → dor_written byte (controller_of old) ≡ fdc → dor_of fdc ≡ byte
    → (IsTrue first ↔ IsBitSet byte 4) → (IsTrue second ↔ IsBitSet byte 5) → IsDorWritten fdc first second old access.between
dor_access byte fdc first second old new access written dor one two =
    let (controller, writes, chips) = access.writes.writes.controllers refl in
    let is : controller ≡ fdc = writes.output refl ∙ written in
    let at : access.writes.chips.controller ≡ fdc = ap (λ c. c.controller) chips ∙ is in
    let dor_at : dor_of access.writes.chips.controller ≡ byte = ap dor_of at ∙ dor in
    let here = subst (λ n. IsTrue first ↔ IsBitSet n 4) (sym dor_at) one in
    let there = subst (λ n. IsTrue second ↔ IsBitSet n 5) (sym dor_at) two in
    let one_line = access.writes.lines.first in
    let two_line = access.writes.lines.second in
    record {
      bus = access.writes.bus ∙ (ap (λ c. let b : Bus = record old.bus { chips = c; fresh = false } in b) chips ∙ ap (λ c. accessed c old.bus) is);
      first_is = switched_closed first (resets 0x3F2 byte) old.first one_line.between access.between.first
          (switched 4 (dor_of access.writes.chips.controller) first old.first one_line.between here one_line.motor) one_line.gate;
      second_is = switched_closed second (resets 0x3F2 byte) old.second two_line.between access.between.second
          (switched 5 (dor_of access.writes.chips.controller) second old.second two_line.between there two_line.motor) two_line.gate;
    }

same_motor_speed : (want : Bool) (old new : DriveState) → old.motor ≡ want → IsSwitched want old new → KeepsSpeed old new
same_motor_speed want old new was is = record {
  motor = is.motor ∙ sym was;
  spin = λ on. let same = is.spin (sym was ∙ on) in omega arith;
}

-- a bay is selected, and the motors stay as they are
pub selects_idle : (motors : Motors) (bay : ℕ) (old new : Board) → bay ≤ 1 → HasMotors motors old → IsResting (controller_of old)
    → IsResting (with_dor (dor_with motors bay) (controller_of old)) → Outputs 0x3F2 (dor_with motors bay) old new
    → Idles (with_dor (dor_with motors bay) (controller_of old)) old new
selects_idle motors bay old new small has rest after access =
    let byte = dor_with motors bay in
    let fdc = with_dor byte (controller_of old) in
    let is = is_dor motors bay small in
    let written = dor_access byte fdc motors.first motors.second old new access (dor_is_written (controller_of old) byte is.released) refl is.first is.second in
    let between = access.between in
    let one : Idles fdc old between = record {
      stays = record {
        keeps = accessed_keeps fdc old between written.bus written.first_is.keeps written.second_is.keeps;
        first = same_motor_speed motors.first old.first between.first has.first written.first_is;
        second = same_motor_speed motors.second old.second between.second has.second written.second_is;
        quiet = λ low. ap (λ b. b.chips.controller.interrupt) written.bus ∙ low;
        low = λ _ low. ap (λ b. b.latch.level) written.bus ∙ low;
      };
      controller_is = ap (λ b. b.chips.controller) written.bus;
      channel = ap (λ b. b.chips.channel) written.bus;
    } in
    let two = gap_idles between new access.gap (subst IsResting (sym one.controller_is) after) in
    idles_then one (subst (λ c. Idles c between new) one.controller_is two)

-- ---- questions to a machine that is idle

-- ---- a controller that is ready

pub ready_rests : (fdc : Fdc) → IsReady fdc → IsResting fdc
ready_rests fdc ready = record {
  no_command = ap is_executing ready.phase;
  no_seek = ap (λ seek. option_map_or (λ s. not (has_ended s.motion)) seek false) ready.seeks.no_seek;
  not_asking = ready.not_asking;
  no_poll = ap (λ due. due && not (is_held fdc)) ready.polled;
}

-- a controller stays ready, whatever DOR and the rate are
pub ready_set : (fdc other : Fdc) → IsReady fdc → IsReady (record fdc { dor = other.dor; rate = other.rate })
ready_set fdc other ready = record {
  phase = ready.phase;
  no_bytes = ready.no_bytes;
  seeks = ready.seeks;
  by_dma = ready.by_dma;
  polled = ready.polled;
  no_interrupt = ready.no_interrupt;
  not_asking = ready.not_asking;
  fifo_on = ready.fifo_on;
  threshold = ready.threshold;
}

pub ready_with : (byte : ℕ) (fdc : Fdc) → IsReady fdc → IsReady (with_dor byte fdc)
ready_with byte fdc ready = ready_set fdc (with_dor byte fdc) ready

pub not_held : (motors : Motors) (bay : ℕ) (fdc : Fdc) → bay ≤ 1 → dor_of fdc ≡ dor_with motors bay → is_held fdc ≡ false
not_held motors bay fdc small dor =
    ap (λ byte. not (bit_and byte 4 == 4)) dor ∙ ap not (is_dor motors bay small).released

pub ready_listens : (motors : Motors) (bay : ℕ) (fdc : Fdc) → bay ≤ 1 → dor_of fdc ≡ dor_with motors bay → IsReady fdc → IsListening fdc
ready_listens motors bay fdc small dor ready = record { rests = ready_rests fdc ready; phase_is = ready.phase; not_held = not_held motors bay fdc small dor }

-- ---- after a command the machine is idle again

pub idle_again : (motors : Motors) (bay : ℕ) (old new : Board) (fdc : Fdc) → IsIdle motors old → bay ≤ 1 → dor_of fdc ≡ dor_with motors bay → IsReady fdc → Idles fdc old new
    → InRange new.first → InRange new.second → IsIdle motors new
idle_again motors bay old new fdc was small dor ready idles first second =
    let stays = idles.stays in
    idle_by motors bay fdc new small idles.controller_is ready dor (stays.first.motor ∙ was.motors_are.first) (stays.second.motor ∙ was.motors_are.second)
    (stays.low was.ready.no_interrupt was.low) first second

pub idle_asks : (old new : Board) (fdc : Fdc) → Idles fdc old new → fdc.seeks.cylinders ≡ (controller_of old).seeks.cylinders
    → data_commands_of fdc ≡ data_commands_of (controller_of old) → OnlyAsks (rig_of old) (rig_of new)
idle_asks old new fdc idles numbers sent =
    keeps_asking old new idles.stays.keeps (ap (λ f. f.seeks.cylinders) idles.controller_is ∙ numbers) (ap data_commands_of idles.controller_is ∙ sent)
    (speed_stays old.first new.first idles.stays.keeps.first.medium idles.stays.first) (speed_stays old.second new.second idles.stays.keeps.second.medium idles.stays.second)

-- ---- the selected drive

lines_at : (board : Board) (bay : ℕ) → bay ≤ 1 → (if bay == 0 then lines_of_drive board.first else (if bay == 1 then lines_of_drive board.second else absent_lines)) ≡ lines_of_drive (drive_in board bay)
lines_at board (suc (suc bay)) small = absurd (omega arith)
lines_at board _ small = refl

pub selected_lines : (motors : Motors) (bay : ℕ) (board : Board) → bay ≤ 1 → dor_of (controller_of board) ≡ dor_with motors bay → lines_of board ≡ lines_of_drive (drive_in board bay)
selected_lines motors bay board small dor =
    let selects : dor_of (controller_of board) % 4 ≡ bay = ap (λ n. n % 4) dor ∙ (is_dor motors bay small).selects in
    ap (λ n. if n == 0 then lines_of_drive board.first else (if n == 1 then lines_of_drive board.second else absent_lines)) selects ∙ lines_at board bay small

-- ---- the change line

line_told : (b : Bool) → ((if b then 0x80 else 0) == 0x80) ≡ b
line_told true = refl
line_told false = refl

pub record ReadsLineIdle (motors : Motors) (bay : ℕ) (changed : Bool) (old new : Board) : Type 0 where
  pub idles : Idles (with_dor (dor_with motors bay) (controller_of old)) old new
  pub line : changed ≡ in_bay (rig_of old).changes bay

pub reads_line : (motors : Motors) (bay : ℕ) (changed : Bool) (old new : Board) → IsIdle motors old → bay ≤ 1 → ReadsLine motors bay old changed new
    → ReadsLineIdle motors bay changed old new
reads_line motors bay changed old new idle small reads =
    let byte = dor_with motors bay in
    let fdc = with_dor byte (controller_of old) in
    let rests = ready_rests fdc (ready_with byte (controller_of old) idle.ready) in
    let one = selects_idle motors bay old reads.selected small idle.motors_are (ready_rests (controller_of old) idle.ready) rests reads.selects in
    let two = input_idles 0x3F7 reads.value reads.selected new reads.reads refl (subst IsResting (sym one.controller_is) rests) in
    let lines = selected_lines motors bay reads.selected small (ap dor_of one.controller_is) in
    let kept = drive_kept old reads.selected bay one.stays.keeps in record {
      idles = idles_then one (subst (λ c. Idles c reads.selected new) one.controller_is two);
      line = reads.answer ∙ (ap (λ v. v == 0x80) (reads.reads.value_is ∙ ap line_bits lines) ∙ (line_told (drive_in reads.selected bay).change ∙ (kept.change ∙ change_in bay old)));
    }

pub line_idle : (motors : Motors) (bay : ℕ) (changed : Bool) (old new : Board) → IsIdle motors old → bay ≤ 1 → ReadsLine motors bay old changed new
    → InRange new.first → InRange new.second → IsIdle motors new
line_idle motors bay changed old new idle small reads first second =
    let is = reads_line motors bay changed old new idle small reads in
    idle_again motors bay old new (with_dor (dor_with motors bay) (controller_of old)) idle small refl (ready_with (dor_with motors bay) (controller_of old) idle.ready) is.idles first second

pub line_asks : (motors : Motors) (bay : ℕ) (changed : Bool) (old new : Board) → IsIdle motors old → bay ≤ 1 → ReadsLine motors bay old changed new
    → OnlyAsks (rig_of old) (rig_of new)
line_asks motors bay changed old new idle small reads =
    idle_asks old new (with_dor (dor_with motors bay) (controller_of old)) (reads_line motors bay changed old new idle small reads).idles refl refl

-- ---- SENSE INTERRUPT where a result is pending

whole : answer ([] ++ 0x08 ∷ []) ≡ Ready SenseInterrupt
unfolding answer
whole = refl

-- the controller whose pending result was taken
abbrev pub sensed_to : Fdc → Fdc
sensed_to fdc = record fdc { phase = Command; command = []; seeks = after_sense fdc.seeks; interrupt = false }

pub senses_pending : (status : ℕ) (old new : Board) (fdc : Fdc) (code number : ℕ) → controller_of old ≡ fdc → IsListening fdc → fdc.command ≡ []
    → sensed fdc.seeks ≡ Some (code, number) → (code == 0x80) ≡ false → is_seeking (after_sense fdc.seeks) ≡ false
    → Senses old status new → (status ≡ code) × Idles (sensed_to fdc) old new
senses_pending status old new fdc code number at listens none pending told over senses =
    let target : Fdc = answered code (Some number) (record (with_bytes [] fdc) { seeks = after_sense fdc.seeks; interrupt = false }) in
    let rests = listens.rests in
    let one = whole_at [] 0x08 SenseInterrupt old senses.sent fdc at listens none tt whole target
    (λ lines controller does. does ∙ ap (λ o. sensing_by o (with_bytes [] fdc)) pending) (λ _. refl)
    (record { no_command = refl; no_seek = over; not_asking = rests.not_asking; no_poll = rests.no_poll }) senses.sends in
    let given_is : given (controller_of senses.sent) ≡ given target = ap given one.controller_is in
    let given_rests : IsResting (given target) = record { no_command = refl; no_seek = over; not_asking = rests.not_asking; no_poll = rests.no_poll } in
    let two = input_idles 0x3F5 status senses.sent senses.between senses.takes refl (subst IsResting (sym given_is) given_rests) in
    let status_is : status ≡ code = senses.takes.value_is ∙ ap (λ c. result_byte c.phase) one.controller_is in
    let (n, access) = subst (λ b. TakesNumber b senses.between new) (ap (λ s. s == 0x80) status_is ∙ told) senses.number in
    let last_is : given (controller_of senses.between) ≡ given (given target) = ap given (two.controller_is ∙ given_is) in
    let last_rests : IsResting (given (given target)) = record { no_command = refl; no_seek = over; not_asking = rests.not_asking; no_poll = rests.no_poll } in
    let three = input_idles 0x3F5 n senses.between new access refl (subst IsResting (sym last_is) last_rests) in (
      status_is,
      idles_then one
          (idles_then (subst (λ c. Idles c senses.sent senses.between) given_is two)
          (subst (λ c. Idles c senses.between new) last_is three)),
    )

-- ---- two of a kind, and the flags of bays

-- flags of two bays, of which one was replaced
pub flags_put : (bays : Two Bay) (n : ℕ) (value : Bay) → flags_of_both (with_bay bays n value) ≡ with_bay (flags_of_both bays) n (flags_of value)
flags_put bays n value =
    let flags = flags_of_both bays in
    elim (n == 0) as (λ b. flags_of_both (if b then record bays { first = value } else record bays { second = value })
    ≡ (if b then record flags { first = flags_of value } else record flags { second = flags_of value })) [ true ↦ refl | false ↦ refl ]

-- the flags of one bay
pub flags_in : (bays : Two Bay) (n : ℕ) → in_bay (flags_of_both bays) n ≡ flags_of (in_bay bays n)
flags_in bays n =
    let flags = flags_of_both bays in
    elim (n == 0) as (λ b. (if b then flags.first else flags.second) ≡ flags_of (if b then bays.first else bays.second)) [ true ↦ refl | false ↦ refl ]

put_same_at : {T : Type 0} (b : Bool) (two : Two T) (value : T) → value ≡ (if b then two.first else two.second) → (if b then record two { first = value } else record two { second = value }) ≡ two
put_same_at true two value same = ap (λ v. record two { first = v }) same
put_same_at false two value same = ap (λ v. record two { second = v }) same

-- putting in what is there already changes nothing
pub put_same : {T : Type 0} (two : Two T) (n : ℕ) (value : T) → value ≡ in_bay two n → with_bay two n value ≡ two
put_same two n value same = put_same_at (n == 0) two value same

-- what was put in is what is there
pub in_put : {T : Type 0} (two : Two T) (n : ℕ) (value : T) → in_bay (with_bay two n value) n ≡ value
in_put two n value =
    elim (n == 0) as (λ b. let put : Two _ = (if b then record two { first = value } else record two { second = value }) in (if b then put.first else put.second) ≡ value) [ true ↦ refl | false ↦ refl ]

abbrev flagged : Bool → Rate → BayFlags
flagged loaded rate = record { loaded = loaded; rate = rate }

-- another medium in place of one leaves the flags as they are
pub flags_medium : (bays : Two Bay) (n : ℕ) (medium : Option Disk) → is_some medium ≡ is_some (in_bay bays n).medium → flags_of_both (with_bay bays n (record (in_bay bays n) { medium = medium })) ≡ flags_of_both bays
flags_medium bays n medium same =
    flags_put bays n (record (in_bay bays n) { medium = medium })
    ∙ put_same (flags_of_both bays) n (flags_of (record (in_bay bays n) { medium = medium }))
    (ap (λ b. flagged b (in_bay bays n).rate) same ∙ sym (flags_in bays n))

-- the flags where a bay gets another rate, with the same medium in or another
pub flags_rate : (bays : Two Bay) (n : ℕ) (value : Bay) (rate : Rate) → is_some value.medium ≡ is_some (in_bay bays n).medium → value.rate ≡ rate → flags_of_both (with_bay bays n value) ≡ with_rate (flags_of_both bays) n rate
flags_rate bays n value rate same is =
    flags_put bays n value
    ∙ ap (λ f. with_bay (flags_of_both bays) n f)
    (ap (λ b. flagged b value.rate) (same ∙ ap (λ (f : BayFlags). f.loaded) (sym (flags_in bays n)))
    ∙ ap (λ r. flagged (in_bay (flags_of_both bays) n).loaded r) is)

-- ---- the flags that a call sets

module _ (flags then_flags : Two BayFlags) (bay : ℕ) where
  -- of one bay
  pub flags_set : (shown then_shown : Two BayFlags) (put : BayFlags) → then_flags ≡ with_bay flags bay put → flags ≡ shown → then_shown ≡ with_bay shown bay put → then_flags ≡ then_shown
  flags_set shown then_shown put set was shows = set ∙ ap (λ f. with_bay f bay put) was ∙ sym shows

  -- the rate of one bay
  pub rate_set : (shown then_shown : Two BayFlags) (rate : Rate) → then_flags ≡ with_rate flags bay rate → flags ≡ shown → then_shown ≡ with_rate shown bay rate → then_flags ≡ then_shown
  rate_set shown then_shown rate set was shows = set ∙ ap (λ f. with_rate f bay rate) was ∙ sym shows
