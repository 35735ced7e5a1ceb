-- A READ DATA in time, through device steps.
use Rattle.std.proofs.Common.{◌≡◌, ◌⊎◌, inl, inr, ℕ, ◌%◌, ◌&&◌, Bool, true, false, [], refl, sym, ◌∙◌, ap, subst, arith, ◌-◌, ◌≤◌, ◌==◌, length, if◌then◌else◌}
use Rattle.laws_machine.proofs.Common.{Rose, emptied, begun, IsReadingData, Sent, is_gated, Fdc, Task, Holds, IsReady, shown, Low, Board, controller_of, drive_in, holds_of, selected_of, Outputs, Step, shown_again, Chips, CanBegin, Scene, Keeping, Stalled, IsPunctualRead, ReadInTime, and_right, false≢true, dma_stepped, new_past, phase_asks, is_executing, is_overrun, is_reading, given, phase_after, asks, Phase, Command, Result, is_controllers, Inputs, StandsStill, slack_of, read_from, after_read, controller_after, IsEmptiedInTime}
use Rattle.laws_machine.proofs.Facts.{quiet_task, shown_stalls, given_down}
use Rattle.laws_machine.proofs.OnSteps.Words.{selected, gated_same}
use Rattle.laws_machine.proofs.OnOrders.Accesses.{begun_underway, read_between}
use Rattle.laws_machine.proofs.OnOrders.Steps.{underway, still_keeps}
use Rattle.laws_machine.proofs.OnReads.Steps.{word_time, reads_there, grants_read, busy_before}
use Rattle.laws_machine.proofs.OnOrders.Beginning.{begun_at}
use Rattle.laws_machine.proofs.OnSteps.Runs.{gap_since}
use Rattle.laws_machine.proofs.OnReads.IdWords.{in_step, slack_low}
use Rattle.laws_machine.specs.OnOrders.Orders as order

-- ---- one device step

pub step_in_time : (old new : Board) → Step old new → (scene : Scene) → ReadInTime scene old → ReadInTime scene new ⊎ Stalled old new
step_in_time old new step scene ((past, was), punctual) =
    let whole = was.scene_is in
    let chips = old.bus.chips in
    let at : selected_of old ≡ scene.bay = ap (λ byte. byte % 4) was.chips.dor ∙ whole.selects in
    let chips_are : new.bus.chips ≡ dma_stepped (record chips { controller = step.between }) = ap (λ bus. bus.chips) step.bus in
    let result = in_step scene past chips (drive_in old scene.bay) step.between (drive_in new scene.bay) was.chips
    (selected scene.bay whole.bay old new at step)
    (word_time scene past chips (drive_in old scene.bay) step.between (drive_in new scene.bay) whole was.chips was.drive
    (selected scene.bay whole.bay old new at step)) punctual in
    elim result [
      | inl on_time ↦ inl ((underway order.Read scene).step old new step (past, was), subst IsPunctualRead (sym chips_are) on_time)
      | inr rose ↦ inr (subst (λ now. Rose chips.holding.stalls now.holding.stalls) (sym chips_are) rose)
    ]

-- ---- many

pub in_time : (scene : Scene) → Keeping (ReadInTime scene)
in_time scene = record {
  step = λ old new step. step_in_time old new step scene;
  idle = λ old gaps fresh (under, punctual). ((underway order.Read scene).idle old gaps fresh under, punctual);
}

-- ---- the beginning

shown_low : (line : Bool) (holding : Holds) → line ≡ false → (shown line holding).request ≡ Low
shown_low true holding is = absurd (false≢true (sym is))
shown_low false holding is = refl

begun_punctual : (chips : Chips) (sent : Sent) (task : Task) (old : Fdc) → IsReadingData sent task → old.fifo.on ≡ true → old.fifo.threshold ≡ 8 → is_gated old ≡ true
    → IsPunctualRead (shown_again (record chips { controller = begun sent.head_drive task old }))
begun_punctual chips sent task old is on threshold gated = record {
  timely = λ _. record {
    on = on;
    threshold = threshold;
    gated = gated;
    rule = quiet_task sent task (emptied old.fifo.on old.fifo.threshold) is refl;
    ready = λ _. subst (λ request. IsReady request 16) (sym (shown_low (is_gated old && false) chips.holding (and_right (is_gated old) false refl)))
        (omega arith);
  };
  no_overrun = refl;
}

-- before the gap
pub begun_in_time : (scene : Scene) (byte : ℕ) (old new : Board) → (access : Outputs 0x3F5 byte old new) → CanBegin order.Read scene byte old
    → (controller_of old).fifo.on ≡ true → (controller_of old).fifo.threshold ≡ 8 → is_gated (controller_of old) ≡ true
    → ReadInTime scene access.between × ((holds_of access.between).stalls ≡ (holds_of old).stalls)
begun_in_time scene byte old new access can on threshold gated =
    let (has, at) = begun_at order.Read scene byte old access.between access.writes can.last in
    let is = subst (order.May order.Read scene new_past) has.after has.may in
    let punctual : IsPunctualRead access.between.bus.chips = subst IsPunctualRead (sym at)
    (subst (λ c. IsPunctualRead (shown_again (record old.bus.chips { controller = c }))) (sym has.after)
    (begun_punctual old.bus.chips scene.sent has.task (record (controller_of old) { command = [] }) is on threshold gated)) in
    ((begun_underway order.Read scene byte old access.between access.writes can, punctual), ap (λ chips. chips.holding.stalls) at ∙ shown_stalls _ old.bus.chips.holding)

pub begins_in_time : (scene : Scene) (byte : ℕ) (old new : Board) → Outputs 0x3F5 byte old new → CanBegin order.Read scene byte old
    → (controller_of old).fifo.on ≡ true → (controller_of old).fifo.threshold ≡ 8 → is_gated (controller_of old) ≡ true
    → ReadInTime scene new ⊎ Stalled old new
begins_in_time scene byte old new access can on threshold gated =
    let (on_time, stalls) = begun_in_time scene byte old new access can on threshold gated in
    gap_since (ReadInTime scene) (in_time scene) old access.between new stalls access.gap on_time

-- ---- A READ DATA in time, through waits and port reads

-- ---- waits

pub still_in_time : (old new : Board) → StandsStill old new → (scene : Scene) → ReadInTime scene old → ReadInTime scene new
still_in_time old new still scene (under, punctual) = (still_keeps order.Read scene old new still under, subst IsPunctualRead (sym still.chips) punctual)

-- ---- port reads

calm_read : (phase : Phase) → is_overrun phase ≡ false → is_overrun (phase_after phase) ≡ false
calm_read = given_down is_overrun refl (λ next last. refl) (λ ending results taken. refl)

pub same_busy : (phase : Phase) → is_executing phase ≡ true → phase_after phase ≡ phase
same_busy (Result answer) busy = absurd (false≢true busy)
same_busy _ busy = refl

-- the request after DRQ is shown again
ready_shown : (line : Bool) (holding : Holds) (slack : ℕ) → (line ≡ false → 9 ≤ slack) → IsReady holding.request slack → IsReady (shown line holding).request slack
ready_shown true holding slack low was = was
ready_shown false holding slack low was = low refl

timely_shown : (chips : Chips) (controller : Fdc) → is_reading chips.controller.phase ≡ true → controller.phase ≡ chips.controller.phase → controller.fifo ≡ chips.controller.fifo → controller.asking ≡ chips.controller.asking
    → controller.dor ≡ chips.controller.dor → IsEmptiedInTime chips → IsEmptiedInTime (shown_again (record chips { controller = controller }))
timely_shown chips controller reading phase fifo asking dor was = record {
  on = ap (λ f. f.on) fifo ∙ was.on;
  threshold = ap (λ f. f.threshold) fifo ∙ was.threshold;
  gated = gated;
  rule = rule;
  ready = λ granting. ready_shown (asks controller) chips.holding (slack_of controller) low
      (subst (λ f. IsReady chips.holding.request (16 - length f.bytes)) (sym fifo) (was.ready granting));
}
  where
    gated : is_gated controller ≡ true
    gated = gated_same controller chips.controller dor was.gated

    rule : controller.asking ≡ phase_asks controller.phase controller.asking controller.fifo
    rule = asking ∙ (was.rule ∙ (ap (λ p. phase_asks p chips.controller.asking chips.controller.fifo) (sym phase)
        ∙ (ap (λ a. phase_asks controller.phase a chips.controller.fifo) (sym asking) ∙ ap (λ f. phase_asks controller.phase controller.asking f) (sym fifo))))

    low : asks controller ≡ false → 9 ≤ slack_of controller
    low down = slack_low (record chips { controller = controller })
        (record { on = ap (λ f. f.on) fifo ∙ was.on; threshold = ap (λ f. f.threshold) fifo ∙ was.threshold; gated = gated })
        rule (ap is_reading phase ∙ reading) down

read_punctual : (chips : Chips) (port : ℕ) → (is_executing chips.controller.phase ≡ true → is_reading chips.controller.phase ≡ true) → IsPunctualRead chips → (controllers data_port : Bool)
    → IsPunctualRead (if controllers then shown_again (record chips { controller = if data_port then given chips.controller else chips.controller }) else record chips { channel = after_read port chips.channel })
read_punctual chips port reads was true true = record {
  timely = λ busy. let before = busy_before chips.controller.phase busy in
      timely_shown chips (given chips.controller) (reads before) (same_busy chips.controller.phase before) refl refl refl (was.timely before);
  no_overrun = calm_read chips.controller.phase was.no_overrun;
}
read_punctual chips port reads was true false = record {
  timely = λ busy. timely_shown chips chips.controller (reads busy) refl refl refl refl (was.timely busy);
  no_overrun = was.no_overrun;
}
read_punctual chips port reads was false data_port = record {
  timely = λ busy. let timely = was.timely busy in record {
    on = timely.on;
    threshold = timely.threshold;
    gated = timely.gated;
    rule = timely.rule;
    ready = λ granting. timely.ready (sym (grants_read port chips.channel) ∙ granting);
  };
  no_overrun = was.no_overrun;
}

port_stalls : (chips : Chips) (port : ℕ) (controllers : Bool)
    → (if controllers then shown_again (record chips { controller = controller_after port chips.controller }) else record chips { channel = after_read port chips.channel }).holding.stalls ≡ chips.holding.stalls
port_stalls chips port true = shown_stalls _ chips.holding
port_stalls chips port false = refl

-- before the gap
pub read_in_time : (port value : ℕ) (old new : Board) → Inputs port old value new → (scene : Scene) → ReadInTime scene old
    → ReadInTime scene (read_from port old) ⊎ ((controller_of new).phase ≡ Command)
read_in_time port value old new access scene ((past, was), punctual) =
    let chips = old.bus.chips in
    let still = read_punctual chips port (reads_there past scene.sent chips.controller.phase chips.controller.asking chips.controller.fifo.bytes was.chips.may) punctual (is_controllers port) (port == 0x3F5) in
    elim (read_between order.Read scene port value old new access (past, was)) [
      | inl under ↦ inl (under, still)
      | inr over ↦ inr over
    ]

pub read_stalls : (port : ℕ) (old : Board) → (holds_of (read_from port old)).stalls ≡ (holds_of old).stalls
read_stalls port old = port_stalls old.bus.chips port (is_controllers port)

-- after a read of a port: the command is over, or it was so before the gap and each device step keeps it so
pub read_since : (P : Board → Type 0) → Keeping P → (port value : ℕ) (old new : Board) → Inputs port old value new → P (read_from port old) ⊎ ((controller_of new).phase ≡ Command)
    → P new ⊎ ((controller_of new).phase ≡ Command) ⊎ Stalled old new
read_since P keeps port value old new access (inr over) = inr (inl over)
read_since P keeps port value old new access (inl on) = elim (gap_since P keeps old (read_from port old) new (read_stalls port old) access.gap on) [
  | inl still ↦ inl still
  | inr rose ↦ inr (inr rose)
]

pub inputs_in_time : (port value : ℕ) (old new : Board) → Inputs port old value new → (scene : Scene) → ReadInTime scene old
    → ReadInTime scene new ⊎ ((controller_of new).phase ≡ Command) ⊎ Stalled old new
inputs_in_time port value old new access scene was = read_since (ReadInTime scene) (in_time scene) port value old new access (read_in_time port value old new access scene was)
