-- A READ DATA puts bytes into its range alone, whatever the drive is.
use Rattle.std.proofs.Common.{◌≡◌, ◌⊎◌, inl, inr, ℕ, ◌+◌, ◌≤◌, ◌==◌, Bool, true, false, length, if◌then◌else◌, refl, sym, ◌∙◌, ap, subst, ◌%◌, [], arith}
use Rattle.laws_machine.proofs.Common.{Channel, is_executing, given, polled, RestsIn, FlowsIn, Fdc, Command, Board, controller_of, memory_of, channel_of, lines_of, is_controllers, WritesPort, Inputs, Outputs, shown_again, Chips, StaysOutside, Scene, StandsStill, IsIdle, IsMoved, Steady, Moving, read_from, Read, Leaves, false≢true, after_read, new_past, past_after, Follows, Runs, RestsIdle, emptied, dor_of, is_gated, Low, holds_of, selected_of, IsOnTime, Laid, IsSetFor, CanBegin, IsPunctualWrite, grants, Stalled}
use Rattle.laws_machine.proofs.Facts.{either_is, polled_phase, shown_stalls}
use Rattle.laws_machine.proofs.OnReads.Steps.{same_given, still_quiet, none_moved, still_busy, stays_outside}
use Rattle.laws_machine.proofs.OnSteps.Runs.{gap, outputs, runs, gap_since}
use Rattle.laws_machine.proofs.OnSteps.Transfers.{after_moves}
use Rattle.laws_machine.proofs.OnSteps.Words.{controller, step_command}
use Rattle.laws_machine.proofs.OnWrites.IdlePorts.{inputs_idle, begun_punctual, on_time}
use Rattle.laws_machine.specs.OnOrders.Outside.{Fetches, IsFetching, CanFetch}
use Rattle.laws_machine.proofs.OnOrders.Accesses.{may_given, shows_given, moves_flipped, moves_read, not_command, same_fdc}
use Rattle.laws_machine.proofs.OnOrders.Beginning.{begun, begun_at, begun_as}
use Rattle.laws_machine.proofs.OnOrders.Words.{views, fetched, must_ask}
use Rattle.laws_machine.specs.OnOrders.Orders as order

-- ---- the word time

word : (scene : Scene) (chips : Chips) (between : Fdc) (index track0 : Bool) (value : ℕ) → Fetches scene chips → Follows chips.controller.phase (polled chips.controller) index value chips.controller between
    → RestsIn (polled chips.controller).phase track0 (polled chips.controller) between → FlowsIn chips.controller.phase chips.controller.asking between → Fetches scene (record chips { controller = between })
word scene chips between index track0 value was follows rests flows = record {
  past = past_after (is_executing chips.controller.phase) index value was.past;
  may = follows.reads was.past scene.sent was.may;
  quiet = still_quiet chips.controller.phase track0 chips.controller between (polled_phase chips.controller) was.quiet (subst (λ p. RestsIn p track0 (polled chips.controller) between) (polled_phase chips.controller) rests) flows;
  moved = same_given (is_executing chips.controller.phase) index value was.past (λ given counted. IsMoved scene given counted chips.memory chips.channel) was.moved;
}

-- ---- device steps

transfers : (scene : Scene) → scene.address + scene.size ≤ length scene.memory → Moving (Fetches scene)
transfers scene fits = record {
  one = λ chips can was.
      let is = fetched scene fits was.past chips can was.may was.quiet was.moved in
      record { past = record was.past { given = is.given; counted = is.counted }; may = is.may; quiet = λ _. is.busy ∙ was.quiet (must_ask chips can); moved = is.moved };
  held = λ chips holding was. record { past = was.past; may = was.may; quiet = was.quiet; moved = was.moved };
}

pub fetching : (scene : Scene) → scene.address + scene.size ≤ length scene.memory → Steady (IsFetching scene)
fetching scene fits = record {
  step = λ old new step was. after_moves (Fetches scene) (transfers scene fits) old new step
      (controller (Fetches scene (record old.bus.chips { controller = step.between })) old new step
      (λ before after works. word scene old.bus.chips step.between _ (before.cylinder == 0) works.reads.word was works.reads.follows works.rests works.flows)
      (λ works. word scene old.bus.chips step.between false false 0 was works.reads works.rests works.flows));
  idle = λ old gaps fresh was. was;
}

-- a READ DATA begins, and no byte outside the range changes
pub begins : (scene : Scene) (byte : ℕ) (old new : Board) → Outputs 0x3F5 byte old new → CanFetch scene byte old → IsFetching scene new
begins scene byte old new access can = outputs (IsFetching scene) (fetching scene can.fits) 0x3F5 byte old new (λ between writes.
    let (controller, does, chips_are) = writes.writes.controllers refl in
    let has = begun Read scene byte (lines_of old) (controller_of old) controller can.last does in
    subst (Fetches scene) (sym (ap (λ bus. bus.chips) writes.bus ∙ chips_are)) (record {
      past = new_past;
      may = has.may;
      quiet = has.shows;
      moved = none_moved scene old.bus.chips.memory old.bus.chips.channel can.left can.memory can.size can.channel;
    })) access

pub outside : (scene : Scene) (board : Board) → IsFetching scene board → StaysOutside scene (memory_of board)
outside scene board was = stays_outside scene was.past.given was.past.counted (memory_of board) (channel_of board) was.moved

pub runs_outside : (scene : Scene) (byte n : ℕ) (old between new : Board) → CanFetch scene byte old → Outputs 0x3F5 byte old between → Runs n between new → StaysOutside scene (memory_of new)
runs_outside scene byte n old between new can access ran = outside scene new (runs (IsFetching scene) (fetching scene can.fits) n between new ran (begins scene byte old between access can))

-- ---- calls, and reads of ports

pub still_fetching : (scene : Scene) (old new : Board) → StandsStill old new → IsFetching scene old → IsFetching scene new
still_fetching scene old new still was = subst (Fetches scene) (sym still.chips) was

-- in its results the machine is idle
pub idles : (scene : Scene) (board : Board) → IsFetching scene board → is_executing (controller_of board).phase ≡ false → IsIdle board
idles scene board was over = record {
  over = over;
  quiet = elim (either_is (controller_of board).asking) [
    | inl up ↦ absurd (false≢true (sym over ∙ was.quiet up))
    | inr down ↦ down
  ];
}

-- the last byte of the results was read
record Ends (old new : Chips) : Type 0 where
  phase : new.controller.phase ≡ Command
  idle : is_executing old.controller.phase ≡ false

-- a read of a port, by whether the port is the controller's, and its data port
abbrev read_by : ℕ → Chips → Bool → Bool → Chips
read_by port chips b d =
    if b then shown_again (record chips { controller = if d then given chips.controller else chips.controller })
    else record chips { channel = after_read port chips.channel }

by_port : (scene : Scene) (port : ℕ) (chips : Chips) → Fetches scene chips → (b d : Bool)
    → Fetches scene (read_by port chips b d) ⊎ Ends chips (read_by port chips b d)
by_port scene port chips was true true = elim (may_given Read scene was.past chips.controller.phase chips.controller.asking chips.controller.fifo was.may) [
  | inl may ↦ inl (record { past = was.past; may = may; quiet = shows_given Read scene chips.controller was.quiet; moved = was.moved })
  | inr over ↦ inr (record {
    phase = over;
    idle = elim (either_is (is_executing chips.controller.phase)) [
      | inl busy ↦ absurd (false≢true (sym (ap is_executing over) ∙ still_busy chips.controller.phase busy))
      | inr idle ↦ idle
    ];
  })
]
by_port scene port chips was true false = inl (record { past = was.past; may = was.may; quiet = was.quiet; moved = was.moved })
by_port scene port chips was false d =
    inl (record { past = was.past; may = was.may; quiet = was.quiet; moved = moves_read Read scene was.past chips.memory chips.channel port was.moved })

-- the command goes on; or it is over, and the machine stays idle
record IsOver (old new : Board) : Type 0 where
  phase : (controller_of new).phase ≡ Command
  rests : RestsIdle old new

inputs_fetch : (scene : Scene) (port value : ℕ) (old new : Board) → scene.address + scene.size ≤ length scene.memory
    → Inputs port old value new → IsFetching scene old → IsFetching scene new ⊎ IsOver old new
inputs_fetch scene port value old new fits access was = elim (by_port scene port old.bus.chips was (is_controllers port) (port == 0x3F5)) [
  | inl on ↦ inl (gap (IsFetching scene) (fetching scene fits) (read_from port old) new access.gap on)
  | inr ends ↦ inr (record {
    phase = gap (λ board. (controller_of board).phase ≡ Command) (record { step = step_command; idle = λ old gaps fresh is. is })
        (read_from port old) new access.gap ends.phase;
    rests = inputs_idle port value old new access (idles scene old was ends.idle);
  })
]

pub reads_on : (scene : Scene) (port value : ℕ) (old new : Board) → scene.address + scene.size ≤ length scene.memory
    → Inputs port old value new → IsFetching scene old → IsFetching scene new ⊎ ((controller_of new).phase ≡ Command)
reads_on scene port value old new fits access was = elim (inputs_fetch scene port value old new fits access was) [
  | inl on ↦ inl on
  | inr over ↦ inr over.phase
]

pub read_over : (scene : Scene) (port value : ℕ) (old new : Board) → scene.address + scene.size ≤ length scene.memory
    → Inputs port old value new → IsFetching scene old → (controller_of new).phase ≡ Command → RestsIdle old new
read_over scene port value old new fits access was is = elim (inputs_fetch scene port value old new fits access was) [
  | inl on ↦ absurd (not_command Read scene on.past (controller_of new) on.may is)
  | inr over ↦ over.rests
]

pub read_outside : (scene : Scene) (port value : ℕ) (old new : Board) → scene.address + scene.size ≤ length scene.memory
    → Inputs port old value new → IsFetching scene old → StaysOutside scene (memory_of new)
read_outside scene port value old new fits access was = elim (inputs_fetch scene port value old new fits access was) [
  | inl on ↦ outside scene new on
  | inr over ↦ subst (StaysOutside scene) (sym over.rests.memory) (outside scene old was)
]

-- ---- writes to ports

chips_left : (scene : Scene) (port value : ℕ) (old between : Board) → Leaves port value old → IsFetching scene old
    → (writes : WritesPort port value old between) → (b : Bool) → is_controllers port ≡ b → IsFetching scene between
chips_left scene port value old between leaves was writes true is =
    let (controller, does, chips) = writes.writes.controllers is in
    let same = same_fdc Read scene was.past port value old controller leaves was.may does in
    let now : between.bus.chips ≡ shown_again (record old.bus.chips { controller = controller_of old }) =
    ap (λ bus. bus.chips) writes.bus ∙ (chips ∙ ap (λ c. shown_again (record old.bus.chips { controller = c })) same) in
    subst (Fetches scene) (sym now) (record { past = was.past; may = was.may; quiet = was.quiet; moved = was.moved })
chips_left scene port value old between leaves was writes false is =
    let (high, flipped) = leaves.channel is in
    let now : between.bus.chips ≡ record old.bus.chips { channel = record (channel_of old) { high_byte_next = high } } =
    ap (λ bus. bus.chips) writes.bus ∙ (writes.writes.channels is ∙ ap (λ (c : Channel). record old.bus.chips { channel = c }) flipped) in
    let moves = moves_flipped Read scene was.past (memory_of old) (channel_of old) high (channel_of old).terminal_count was.moved in
    subst (Fetches scene) (sym now) (record { past = was.past; may = was.may; quiet = was.quiet; moved = moves })

pub outputs_fetch : (scene : Scene) (port value : ℕ) (old new : Board) → scene.address + scene.size ≤ length scene.memory
    → Outputs port value old new → Leaves port value old → IsFetching scene old → IsFetching scene new
outputs_fetch scene port value old new fits access leaves was =
    outputs (IsFetching scene) (fetching scene fits) port value old new
    (λ between writes. chips_left scene port value old between leaves was writes (is_controllers port) refl) access

-- ---- A command that writes begins on time

granting : (laid : Laid) (scene : Scene) (channel : Channel) → IsSetFor (order.Write laid) scene channel → grants channel ≡ true
granting laid scene channel (left, size, set) = set.granting

pub begins_on_time : (laid : Laid) (scene : Scene) (byte : ℕ) (old new : Board) → Outputs 0x3F5 byte old new → CanBegin (order.Write laid) scene byte old
    → (controller_of old).fifo.on ≡ true → (controller_of old).fifo.threshold ≡ 8 → is_gated (controller_of old) ≡ true
    → (holds_of old).request ≡ Low → IsOnTime new ⊎ Stalled old new
begins_on_time laid scene byte old new access can on threshold gated low =
    let (has, at) = begun_at (order.Write laid) scene byte old access.between access.writes can.last in
    let from : Fdc = record (controller_of old) { command = [] } in
    let may = subst (order.May (order.Write laid) scene new_past) has.after has.may in
    let fills = (views laid scene new_past (begun_as (order.Write laid) scene.sent.head_drive has.task from).phase _ (emptied from.fifo.on from.fifo.threshold) may).0 in
    let punctual : IsPunctualWrite access.between.bus.chips = subst IsPunctualWrite (sym at)
    (subst (λ c. IsPunctualWrite (shown_again (record old.bus.chips { controller = c }))) (sym has.after)
    (begun_punctual old.bus.chips scene.sent.head_drive has.task from fills has.waits on threshold gated (granting laid scene old.bus.chips.channel can.channel) low)) in
    let same : (holds_of access.between).stalls ≡ (holds_of old).stalls = ap (λ chips. chips.holding.stalls) at ∙ shown_stalls _ old.bus.chips.holding in
    let dor : dor_of (controller_of access.between) ≡ scene.dor = ap dor_of has.after ∙ can.dor in
    let selected : selected_of access.between ≡ scene.bay = ap (λ byte. byte % 4) dor ∙ can.scene_is.selects in
    let small = can.scene_is.bay in
    gap_since IsOnTime on_time old access.between new same access.gap (record { selects = omega arith; punctual = punctual })
