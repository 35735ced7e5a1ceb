-- Port accesses of a data command: the write that begins it, and reads.
use Rattle.std.proofs.Common.{◌≡◌, ◌⊎◌, inl, inr, ℕ, ◌+◌, ◌==◌, ◌||◌, nat_le, Bool, true, false, not, Option, List, if◌then◌else◌, refl, sym, ◌∙◌, subst, ap, ◌%◌, arith}
use Rattle.laws_machine.proofs.Common.{DriveState, Channel, Fifo, Past, Ending, Results, is_executing, given, phase_after, Short, Long, Fdc, Phase, Board, controller_of, drive_in, is_controllers, port_read, WritesPort, Inputs, Outputs, shown_again, Chips, drive_stays, IsScene, Scene, read_from, IsUnderwayOn, Window, Order, Identify, Read, Write, MayIn, Shows, AtDrive, IsDoneBy, Underway, CanBegin, IsDriveOf, new_past, CanBeginAt, refuses, false≢true, Moved as Moves, takes_in, is_held, channel_of, lines_of, sets_lines, May, Leaves, PortWrites as Writes, Seeking, seek_bits, next_entry, selected_of, LeavesOthers, HasNoSeek, StaysStill, IsLast}
use Rattle.dma_8237.specs.Channel.{grants, after_read, after_write}
use Rattle.laws_machine.proofs.OnReads.Steps.{same_drive, busy_before, still_busy, calm_read, gapped}
use Rattle.laws_machine.proofs.OnSteps.Runs.{gap, outputs, goes_runs, runs}
use Rattle.laws_machine.proofs.OnOrders.Behind.{KeepsOn}
use Rattle.laws_machine.proofs.OnLead.Spinning.{none_heard}
use Rattle.laws_machine.proofs.OnOrders.Beginning.{begun_at, begun_by}
use Rattle.laws_machine.proofs.OnOrders.Steps.{goes_on, at_drive}
use Rattle.laws_machine.proofs.Facts.{either_is, given_down, number_is}
use Rattle.laws_machine.proofs.OnSteps.Words.{step_command}
use Rattle.laws_machine.proofs.OnOrders.Words.{views}
use Rattle.laws_machine.proofs.OnWrites.Guards.{leaves_on, leaving, no_bits, stilling, still_same}
use Rattle.fdc_phases.specs.declared.phases.Phase.TheVariants as phase

-- ---- a read of the data port

no_short : (order : Order) (scene : Scene) (past : Past) (next : ℕ) (last : Option ℕ) (asking : Bool) (fifo : Fifo) → MayIn order scene past (phase.Result (Short next last)) asking fifo → ⊥
no_short (Write (Window deleted)) scene past next last asking fifo may = may
no_short _ scene past next last asking fifo may = may

next_byte : (order : Order) (scene : Scene) (past : Past) (ending : Ending) (results : Results) (taken : ℕ) (asking : Bool) (fifo : Fifo) → MayIn order scene past (phase.Result (Long ending results taken)) asking fifo
    → MayIn order scene past (phase.Result (Long ending results (taken + 1))) asking fifo
next_byte (Write (Window deleted)) scene past ending results taken asking fifo may = may
next_byte _ scene past ending results taken asking fifo may = may

pub may_given : (order : Order) (scene : Scene) (past : Past) (p : Phase) (asking : Bool) (fifo : Fifo) → MayIn order scene past p asking fifo
    → MayIn order scene past (phase_after p) asking fifo ⊎ (phase_after p ≡ phase.Command)
may_given order scene past phase.Command asking fifo may = inr refl
may_given order scene past (phase.Execute execution) asking fifo may = inl may
may_given order scene past (phase.Result (Short next last)) asking fifo may = absurd (no_short order scene past next last asking fifo may)
may_given order scene past (phase.Result (Long ending results taken)) asking fifo may = by_last (nat_le 6 taken)
  where
    by_last : (b : Bool) → MayIn order scene past (if b then phase.Command else phase.Result (Long ending results (taken + 1))) asking fifo
        ⊎ ((if b then phase.Command else phase.Result (Long ending results (taken + 1))) ≡ phase.Command)
    by_last true = inr refl
    by_last false = inl (next_byte order scene past ending results taken asking fifo may)

read_refuses : (phase : Phase) → refuses (phase_after phase) ≡ true → refuses phase ≡ true
read_refuses phase is = elim (either_is (refuses phase)) [
  | inl was ↦ was
  | inr calm ↦ absurd (false≢true (sym (given_down refuses refl (λ next last. refl) (λ ending results taken. refl) phase calm) ∙ is))
]

pub shows_given : (order : Order) (scene : Scene) (fdc : Fdc) → Shows order scene fdc → Shows order scene (given fdc)
shows_given Identify scene fdc (low, calm) = (low, calm_read fdc.phase calm)
shows_given Read scene fdc quiet = λ up. still_busy fdc.phase (quiet up)
shows_given (Write laid) scene fdc covered = λ is. covered (read_refuses fdc.phase is)

-- ---- the channel

-- the channel's flip-flop and its terminal count play no part
same_grants : (channel : Channel) (high told : Bool) → grants (record channel { high_byte_next = high; terminal_count = told }) ≡ grants channel
unfolding grants
same_grants channel high told = refl

pub moves_flipped : (order : Order) (scene : Scene) (past : Past) (memory : List ℕ) (channel : Channel) (high told : Bool) → Moves order scene past memory channel
    → Moves order scene past memory (record channel { high_byte_next = high; terminal_count = told })
moves_flipped Identify scene past memory channel high told was = was
moves_flipped Read scene past memory channel high told was = record {
  bytes = was.bytes;
  goes_on = λ uncounted. let (left, all, set) = was.goes_on uncounted in (
    left,
    all,
    record { granting = same_grants channel high told ∙ set.granting; writing = set.writing; place = set.place; count = set.count; room = set.room },
  );
  over = λ counted. let (masked, all) = was.over counted in (same_grants channel high told ∙ masked, all);
}
moves_flipped (Write laid) scene past memory channel high told was = record {
  same = was.same;
  first = was.first;
  goes_on = λ uncounted. let (left, all, set) = was.goes_on uncounted in (
    left,
    all,
    record { granting = same_grants channel high told ∙ set.granting; reading = set.reading; place = set.place; count = set.count; room = set.room },
  );
  over = λ counted. let (masked, all) = was.over counted in (same_grants channel high told ∙ masked, all);
}

pub moves_read : (order : Order) (scene : Scene) (past : Past) (memory : List ℕ) (channel : Channel) (port : ℕ) → Moves order scene past memory channel → Moves order scene past memory (after_read port channel)
unfolding after_read
moves_read order scene past memory channel port was = by_port (port == 4 || port == 5) (port == 8)
  where
    by_port : (a b : Bool) → Moves order scene past memory (if a then record channel { high_byte_next = not channel.high_byte_next } else (if b then record channel { terminal_count = false } else channel))
    by_port true b = moves_flipped order scene past memory channel (not channel.high_byte_next) channel.terminal_count was
    by_port false true = moves_flipped order scene past memory channel channel.high_byte_next false was
    by_port false false = was

-- ---- reads

-- the command is as before, or the controller takes commands
pub record IsReadOn (order : Order) (scene : Scene) (past : Past) (old new : Chips) : Type 0 where
  pub known : IsDoneBy order scene past new
  pub busy : is_executing new.controller.phase ≡ true → is_executing old.controller.phase ≡ true

pub by_port : (order : Order) (scene : Scene) (past : Past) (port : ℕ) (chips : Chips) → IsDoneBy order scene past chips → (b d : Bool)
    → IsReadOn order scene past chips (if b then shown_again (record chips { controller = if d then given chips.controller else chips.controller }) else record chips { channel = after_read port chips.channel })
    ⊎ ((if b then shown_again (record chips { controller = if d then given chips.controller else chips.controller }) else record chips { channel = after_read port chips.channel }).controller.phase ≡ phase.Command)
by_port order scene past port chips was true true = elim (may_given order scene past chips.controller.phase chips.controller.asking chips.controller.fifo was.may) [
  | inl may ↦ inl (record {
    known = record { may = may; shows = shows_given order scene chips.controller was.shows; dor = was.dor; rate = was.rate; moves = was.moves };
    busy = busy_before chips.controller.phase;
  })
  | inr over ↦ inr over
]
by_port order scene past port chips was true false =
    inl (record { known = record { may = was.may; shows = was.shows; dor = was.dor; rate = was.rate; moves = was.moves }; busy = λ busy. busy })
by_port order scene past port chips was false d =
    inl (record { known = record { may = was.may; shows = was.shows; dor = was.dor; rate = was.rate; moves = moves_read order scene past chips.memory chips.channel port was.moves }; busy = λ busy. busy })

module _ (order : Order) (scene : Scene) (On : Past → Bool → DriveState → Type 0) (keeps : KeepsOn order scene On) where
  -- the command is as before when the gap begins; or the controller takes commands after the gap
  pub between_goes : (port value : ℕ) (old new : Board) → Inputs port old value new → IsUnderwayOn On order scene old → IsUnderwayOn On order scene (read_from port old) ⊎ ((controller_of new).phase ≡ phase.Command)
  between_goes port value old new access (past, was) = elim (by_port order scene past port old.bus.chips was.chips (is_controllers port) (port == 0x3F5)) [
    | inl on ↦ inl (
      past,
      record {
        scene_is = was.scene_is;
        chips = on.known;
        drive = keeps.less past (is_executing (controller_of old).phase) (is_executing (port_read port old.bus.chips).controller.phase) (drive_in old scene.bay) on.busy was.drive;
      },
    )
    | inr over ↦ inr (gap (λ board. (controller_of board).phase ≡ phase.Command) (record { step = step_command; idle = λ old gaps fresh is. is }) (read_from port old) new access.gap over)
  ]

  pub inputs_go : (port value : ℕ) (old new : Board) → Inputs port old value new → IsUnderwayOn On order scene old → IsUnderwayOn On order scene new ⊎ ((controller_of new).phase ≡ phase.Command)
  inputs_go port value old new access was = elim (between_goes port value old new access was) [
    | inl on ↦ inl (gap (IsUnderwayOn On order scene) (goes_on order scene On keeps) (read_from port old) new access.gap on)
    | inr over ↦ inr over
  ]

  -- ---- the write that begins it

  module _ (At : Scene → DriveState → Type 0) (none_heard : (executes : Bool) (drive : DriveState) → IsScene scene → At scene drive → On new_past executes drive) where
    -- before the gap
    pub between_begun : (byte : ℕ) (old between : Board) → WritesPort 0x3F5 byte old between → CanBeginAt At order scene byte old → IsUnderwayOn On order scene between
    between_begun byte old between writes can =
        let (has, chips_are) = begun_at order scene byte old between writes can.last in
        let drive_is : drive_in between scene.bay ≡ drive_in old scene.bay =
        same_drive old.first old.second between.first between.second (drive_stays writes.lines.first refl) (drive_stays writes.lines.second refl) (scene.bay == 0) in (
          new_past,
          record {
            scene_is = can.scene_is;
            chips = subst (IsDoneBy order scene new_past) (sym chips_are) (begun_by order scene old.bus.chips (controller_of between) can.dor can.rate can.memory can.channel has);
            drive = subst (On new_past (is_executing (controller_of between).phase)) (sym drive_is) (none_heard (is_executing (controller_of between).phase) (drive_in old scene.bay) can.scene_is can.drive);
          },
        )

    pub begins_on : (byte : ℕ) (old new : Board) → Outputs 0x3F5 byte old new → CanBeginAt At order scene byte old → IsUnderwayOn On order scene new
    begins_on byte old new access can = outputs (IsUnderwayOn On order scene) (goes_on order scene On keeps) 0x3F5 byte old new (λ between writes. between_begun byte old between writes can) access

-- ---- of a drive at speed

pub read_between : (order : Order) (scene : Scene) (port value : ℕ) (old new : Board) → Inputs port old value new → Underway order scene old
    → Underway order scene (read_from port old) ⊎ ((controller_of new).phase ≡ phase.Command)
read_between order scene = between_goes order scene (AtDrive order scene) (at_drive order scene)

pub inputs_keep : (order : Order) (scene : Scene) (port value : ℕ) (old new : Board) → Inputs port old value new → Underway order scene old
    → Underway order scene new ⊎ ((controller_of new).phase ≡ phase.Command)
inputs_keep order scene = inputs_go order scene (AtDrive order scene) (at_drive order scene)

pub begun_underway : (order : Order) (scene : Scene) (byte : ℕ) (old between : Board) → WritesPort 0x3F5 byte old between → CanBegin order scene byte old → Underway order scene between
begun_underway order scene = between_begun order scene (AtDrive order scene) (at_drive order scene) IsDriveOf (none_heard order scene)

pub begins : (order : Order) (scene : Scene) (byte : ℕ) (old new : Board) → Outputs 0x3F5 byte old new → CanBegin order scene byte old → Underway order scene new
begins order scene = begins_on order scene (AtDrive order scene) (at_drive order scene) IsDriveOf (none_heard order scene)

-- ---- port writes that leave a data command as it is. They are a byte to the data port, which takes none, a write
-- that clears the channel's flip-flop, and a write to a port where nothing answers.

-- the data port takes no byte in this phase
taking_in : (p : Phase) → (p ≡ phase.Command → ⊥) → (held : Bool) → takes_in p held ≡ false
taking_in phase.Command busy held = absurd (busy refl)
taking_in _ busy held = refl

pub not_command : (order : Order) (scene : Scene) (past : Past) (fdc : Fdc) → May order scene past fdc → fdc.phase ≡ phase.Command → ⊥
not_command Identify scene past fdc may is = subst (λ p. MayIn Identify scene past p fdc.asking fdc.fifo) is may
not_command Read scene past fdc may is = subst (λ p. MayIn Read scene past p fdc.asking fdc.fifo) is may
not_command (Write laid) scene past fdc may is = views laid scene past phase.Command fdc.asking fdc.fifo (subst (λ p. MayIn (Write laid) scene past p fdc.asking fdc.fifo) is may)

pub same_fdc : (order : Order) (scene : Scene) (past : Past) (port value : ℕ) (board : Board) (new : Fdc) → Leaves port value board → May order scene past (controller_of board) → Writes port value (lines_of board) (controller_of board) new → new ≡ controller_of board
same_fdc order scene past port value board new leaves may writes = elim (either_is (port == 0x3F5)) [
  | inl is ↦ (writes.bytes (number_is port 0x3F5 is)).1 (taking_in (controller_of board).phase (not_command order scene past (controller_of board) may) (is_held (controller_of board)))
  | inr is ↦ writes.others leaves.output leaves.select is leaves.control
]

pub same_chips : (order : Order) (scene : Scene) (past : Past) (port value : ℕ) (old between : Board) → Leaves port value old → IsDoneBy order scene past old.bus.chips → (writes : WritesPort port value old between)
    → (b : Bool) → is_controllers port ≡ b → IsDoneBy order scene past between.bus.chips × (between.bus.chips.controller ≡ controller_of old)
same_chips order scene past port value old between leaves was writes true is =
    let (controller, does, chips) = writes.writes.controllers is in
    let same = same_fdc order scene past port value old controller leaves was.may does in
    let now : between.bus.chips ≡ shown_again (record old.bus.chips { controller = controller_of old }) = ap (λ bus. bus.chips) writes.bus ∙ (chips ∙ ap (λ c. shown_again (record old.bus.chips { controller = c })) same) in
    (subst (IsDoneBy order scene past) (sym now) (record { may = was.may; shows = was.shows; dor = was.dor; rate = was.rate; moves = was.moves }), ap (λ c. c.controller) now)
same_chips order scene past port value old between leaves was writes false is =
    let (high, flipped) = leaves.channel is in
    let now : between.bus.chips ≡ record old.bus.chips { channel = record (channel_of old) { high_byte_next = high } } =
    ap (λ bus. bus.chips) writes.bus ∙ (writes.writes.channels is ∙ ap (λ (c : Channel). record old.bus.chips { channel = c }) flipped) in
    let moves = moves_flipped order scene past old.bus.chips.memory (channel_of old) high (channel_of old).terminal_count was.moves in
    (subst (IsDoneBy order scene past) (sym now) (record { may = was.may; shows = was.shows; dor = was.dor; rate = was.rate; moves = moves }), ap (λ c. c.controller) now)

pub no_lines : (port value : ℕ) → (port == 0x3F2) ≡ false → (port == 0x3F4) ≡ false → sets_lines port value ≡ false
no_lines port value output select = rw (output, select) refl

pub outputs_go : (order : Order) (scene : Scene) (On : Past → Bool → DriveState → Type 0) → KeepsOn order scene On → (port value : ℕ) (old new : Board) → Outputs port value old new → Leaves port value old
    → IsUnderwayOn On order scene old → IsUnderwayOn On order scene new
outputs_go order scene On keeps port value old new access leaves (past, was) = outputs (IsUnderwayOn On order scene) (goes_on order scene On keeps) port value old new (λ between writes.
    let (chips, same) = same_chips order scene past port value old between leaves was.chips writes (is_controllers port) refl in
    let calm = no_lines port value leaves.output leaves.select in
    let drive_is : drive_in between scene.bay ≡ drive_in old scene.bay =
    same_drive old.first old.second between.first between.second (drive_stays writes.lines.first calm) (drive_stays writes.lines.second calm) (scene.bay == 0) in (
      past,
      record {
        scene_is = was.scene_is;
        chips = chips;
        drive = subst (λ (fdc : Fdc). On past (is_executing fdc.phase) (drive_in between scene.bay)) (sym same) (subst (On past (is_executing (controller_of old).phase)) (sym drive_is) was.drive);
      },
    )) access

pub outputs_keep : (order : Order) (scene : Scene) (port value : ℕ) (old new : Board) → Outputs port value old new → Leaves port value old → Underway order scene old → Underway order scene new
outputs_keep order scene = outputs_go order scene (AtDrive order scene) (at_drive order scene)

-- ---- which they are

-- a byte to the data port
pub leaves_data : (value : ℕ) (board : Board) → Leaves 0x3F5 value board
leaves_data value board = record { output = refl; select = refl; control = refl; channel = λ no. absurd (false≢true (sym no)) }

-- 0C clears the flip-flop
pub leaves_clear : (value : ℕ) (board : Board) → Leaves 0x0C value board
unfolding after_write
leaves_clear value board = record { output = refl; select = refl; control = refl; channel = λ _. (false, refl) }

-- ---- what the port write that begins a data command leaves of the drives

-- the controller's seeks and its output register are as they were
record KeepsSeeks (old new : Fdc) : Type 0 where
  pub seeks : new.seeks ≡ old.seeks
  pub dor : new.dor ≡ old.dor

selected_same : (old new : Board) → KeepsSeeks (controller_of old) (controller_of new) → selected_of new ≡ selected_of old
selected_same old new same = ap (λ dor. dor.0 % 4) same.dor

between_still : (byte : ℕ) (old new : Board) (access : Outputs 0x3F5 byte old new) → KeepsSeeks (controller_of old) (controller_of access.between) → HasNoSeek old → StaysStill old (gapped access.between)
between_still byte old new access same was =
    let selects = was.selects in
    let selected = selected_same old access.between same in
    record {
      no_seek = record { selects = omega arith; none = ap (λ (s : Seeking). s.seek) same.seeks ∙ was.none };
      first = still_same old.first access.between.first (drive_stays access.writes.lines.first refl);
      second = still_same old.second access.between.second (drive_stays access.writes.lines.second refl);
      numbers = ap (λ (s : Seeking). s.cylinders) same.seeks;
    }

begins_still : (byte : ℕ) (old new : Board) (access : Outputs 0x3F5 byte old new) → KeepsSeeks (controller_of old) (controller_of access.between) → HasNoSeek old → StaysStill old new
begins_still byte old new access same was =
    let between = between_still byte old new access same was in
    runs (StaysStill old) (stilling old) (next_entry access.between.bus.gaps) (gapped access.between) new access.gap.runs between

begins_leaving : (byte : ℕ) (old new : Board) (access : Outputs 0x3F5 byte old new) → KeepsSeeks (controller_of old) (controller_of access.between) → LeavesOthers old new
begins_leaving byte old new access same =
    let between : LeavesOthers old (gapped access.between) = record {
      dor = ap (λ dor. dor.0) same.dor;
      first = λ _. ap (λ s. s.medium) (drive_stays access.writes.lines.first refl);
      second = λ _. ap (λ s. s.medium) (drive_stays access.writes.lines.second refl);
    } in
    leaves_on old (gapped access.between) new between (goes_runs LeavesOthers leaving (next_entry access.between.bus.gaps) (gapped access.between) new access.gap.runs)

-- a data command that begins leaves the seeks and the output register as they were
begin_keeps : (order : Order) (scene : Scene) (byte : ℕ) (old new : Board) (access : Outputs 0x3F5 byte old new) → CanBegin order scene byte old → KeepsSeeks (controller_of old) (controller_of access.between)
begin_keeps order scene byte old new access can =
    let (has, chips_are) = begun_at order scene byte old access.between access.writes can.last in
    record { seeks = ap (λ (fdc : Fdc). fdc.seeks) has.after; dor = ap (λ (fdc : Fdc). fdc.dor) has.after }

no_bits_last : (order : Order) (scene : Scene) (byte : ℕ) (fdc : Fdc) → IsLast order scene byte fdc → seek_bits fdc.seeks ≡ 0
no_bits_last (Write (Window deleted)) scene byte fdc last = last.no_seek
no_bits_last _ scene byte fdc last = last.no_seek

pub begin_still : (order : Order) (scene : Scene) (byte : ℕ) (old new : Board) → Outputs 0x3F5 byte old new → CanBegin order scene byte old → StaysStill old new
begin_still order scene byte old new access can =
    let small = can.scene_is.bay in
    let selected : selected_of old ≡ scene.bay = ap (λ b. b % 4) can.dor ∙ can.scene_is.selects in
    begins_still byte old new access (begin_keeps order scene byte old new access can)
    (record { selects = omega arith; none = no_bits (controller_of old).seeks (no_bits_last order scene byte (controller_of old) can.last) })

pub begin_leaves : (order : Order) (scene : Scene) (byte : ℕ) (old new : Board) → Outputs 0x3F5 byte old new → CanBegin order scene byte old → LeavesOthers old new
begin_leaves order scene byte old new access can = begins_leaving byte old new access (begin_keeps order scene byte old new access can)
