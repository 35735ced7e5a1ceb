-- A READ DATA that ends soon, through the port write that begins it, waits and port reads.
use Rattle.std.proofs.Common.{◌≡◌, ◌⊎◌, inl, inr, ℕ, ◌≤◌, ◌==◌, ◌&&◌, Bool, true, false, length, if◌then◌else◌, refl, sym, ap, subst, arith, []}
use Rattle.laws_machine.proofs.Common.{begun, IsReadingData, Sent, is_executing, given, phase_after, interrupt_after, asks, is_gated, Fdc, Phase, Command, Execute, Task, AreShort, Holds, IsShort, shown, Board, controller_of, holds_of, is_controllers, WritesPort, Inputs, Outputs, shown_again, Chips, StandsStill, read_from, CanBegin, Scene, wait_left, IsSoonOver, ReadSoon, ReadPrompt, false≢true, after_read, controller_after, IsGrantedSoon, new_past, Stalled}
use Rattle.laws_machine.proofs.Facts.{quiet_task}
use Rattle.laws_machine.proofs.OnSteps.Runs.{gap, outputs, gap_since, shown_short}
use Rattle.laws_machine.proofs.OnOrders.Accesses.{begun_underway, read_between}
use Rattle.laws_machine.proofs.OnOrders.Steps.{still_keeps}
use Rattle.laws_machine.proofs.OnReads.InTime.{begun_in_time, still_in_time, read_in_time, read_since}
use Rattle.laws_machine.proofs.OnReads.EndMoves.{request_short, asks_up}
use Rattle.laws_machine.proofs.OnReads.EndSteps.{soon_over, prompting}
use Rattle.laws_machine.proofs.OnOrders.Beginning.{begun_at}
use Rattle.laws_machine.proofs.OnReads.Steps.{busy_before, calm_read}
use Rattle.laws_machine.specs.OnOrders.Orders as order

-- ---- a call that leaves the chips

pub still_soon : (old new : Board) → StandsStill old new → (scene : Scene) → ReadSoon scene old → ReadSoon scene new
still_soon old new still scene (under, soon, short) =
    (still_keeps order.Read scene old new still under, subst (IsSoonOver scene.disk.words_per_track) (sym still.chips) soon, subst (λ chips. AreShort chips.holding) (sym still.chips) short)

pub still_prompt : (old new : Board) → StandsStill old new → (scene : Scene) → ReadPrompt scene old → ReadPrompt scene new
still_prompt old new still scene (in_time, soon) = (still_in_time old new still scene in_time, subst (IsSoonOver scene.disk.words_per_track) (sym still.chips) soon)

-- ---- the beginning

low_short : (line : Bool) (holding : Holds) → line ≡ false → IsShort (shown line holding).request
low_short true holding low = absurd (false≢true (sym low))
low_short false holding low = tt

begun_soon : (words : ℕ) (chips : Chips) (sent : Sent) (task : Task) (old : Fdc) → IsReadingData sent task → is_gated old ≡ true
    → IsSoonOver words (shown_again (record chips { controller = begun sent.head_drive task old }))
begun_soon words chips sent task old is gated = record {
  gated = gated;
  short = low_short _ chips.holding (ap (λ b. b && false) gated);
  granted = λ _. record {
    ruled = record { rule = quiet_task sent task (record old.fifo { bytes = [] }) is refl; room = omega arith };
    drained = λ _. refl;
    few = λ over. omega arith;
  };
  no_late = refl;
}

-- before the gap
between_soon : (scene : Scene) (byte : ℕ) (old between : Board) → WritesPort 0x3F5 byte old between → CanBegin order.Read scene byte old → is_gated (controller_of old) ≡ true
    → IsSoonOver scene.disk.words_per_track between.bus.chips × (AreShort (holds_of old) → AreShort (holds_of between))
between_soon scene byte old between writes can gated =
    let (has, at) = begun_at order.Read scene byte old between writes can.last in
    let is = subst (order.May order.Read scene new_past) has.after has.may in
    let soon = begun_soon scene.disk.words_per_track old.bus.chips scene.sent has.task (record (controller_of old) { command = [] }) is gated in (
      subst (IsSoonOver scene.disk.words_per_track) (sym at) (subst (λ c. IsSoonOver scene.disk.words_per_track (shown_again (record old.bus.chips { controller = c }))) (sym has.after) soon),
      λ short. subst (λ chips. AreShort chips.holding) (sym at) (shown_short _ (holds_of old) short),
    )

pub begins_soon : (scene : Scene) (byte : ℕ) (old new : Board) → Outputs 0x3F5 byte old new → CanBegin order.Read scene byte old
    → is_gated (controller_of old) ≡ true → AreShort (holds_of old) → ReadSoon scene new
begins_soon scene byte old new access can gated short = outputs (ReadSoon scene) (soon_over scene) 0x3F5 byte old new (λ between writes.
    let (soon, shorts) = between_soon scene byte old between writes can gated in (begun_underway order.Read scene byte old between writes can, soon, shorts short)) access

pub begins_prompt : (scene : Scene) (byte : ℕ) (old new : Board) → Outputs 0x3F5 byte old new → CanBegin order.Read scene byte old
    → (controller_of old).fifo.on ≡ true → (controller_of old).fifo.threshold ≡ 8 → is_gated (controller_of old) ≡ true
    → ReadPrompt scene new ⊎ Stalled old new
begins_prompt scene byte old new access can on threshold gated =
    let (on_time, stalls) = begun_in_time scene byte old new access can on threshold gated in
    gap_since (ReadPrompt scene) (prompting scene) old access.between new stalls access.gap (on_time, (between_soon scene byte old access.between access.writes can gated).0)

-- ---- port reads

-- in execution the data port gives no byte
same_busy : (fdc : Fdc) → is_executing fdc.phase ≡ true → given fdc ≡ fdc
same_busy fdc busy = by_phase fdc.phase busy
  where
    by_phase : (phase : Phase) → is_executing phase ≡ true → record fdc { interrupt = interrupt_after phase fdc.interrupt; phase = phase_after phase } ≡ record fdc { phase = phase }
    by_phase (Execute execution) busy = refl
    by_phase _ busy = absurd (false≢true busy)

-- the request is as it was while DRQ is up
wait_shown : (none line : Bool) (holding : Holds) → (none ≡ false → line ≡ true) → wait_left none (shown line holding).request ≤ wait_left none holding.request
wait_shown false false holding up = absurd (false≢true (up refl))
wait_shown _ _ holding up = omega arith

shown_soon : (words : ℕ) (chips : Chips) → is_gated chips.controller ≡ true → IsGrantedSoon words chips → IsGrantedSoon words (shown_again chips)
shown_soon words chips gated was = record {
  ruled = was.ruled;
  drained = was.drained;
  few = λ over.
      let few = was.few over in
      let less = wait_shown (length chips.controller.fifo.bytes == 0) (asks chips.controller) chips.holding (asks_up chips.controller gated was.ruled over) in
      omega arith;
}

read_soon : (words : ℕ) (chips : Chips) (port : ℕ) → IsSoonOver words chips → (controllers data_port : Bool)
    → IsSoonOver words (if controllers then shown_again (record chips { controller = if data_port then given chips.controller else chips.controller }) else record chips { channel = after_read port chips.channel })
read_soon words chips port was true true = record {
  gated = was.gated;
  short = request_short _ chips.holding was.short;
  granted = λ busy. let before = busy_before chips.controller.phase busy in
      subst (λ fdc. IsGrantedSoon words (shown_again (record chips { controller = fdc }))) (sym (same_busy chips.controller before)) (shown_soon words chips was.gated (was.granted before));
  no_late = calm_read chips.controller.phase was.no_late;
}
read_soon words chips port was true false =
    record { gated = was.gated; short = request_short _ chips.holding was.short; granted = λ busy. shown_soon words chips was.gated (was.granted busy); no_late = was.no_late }
read_soon words chips port was false data_port = record {
  gated = was.gated;
  short = was.short;
  granted = λ busy. let granted = was.granted busy in record { ruled = granted.ruled; drained = granted.drained; few = granted.few };
  no_late = was.no_late;
}

port_short : (chips : Chips) (port : ℕ) → AreShort chips.holding → (controllers : Bool)
    → AreShort (if controllers then shown_again (record chips { controller = controller_after port chips.controller }) else record chips { channel = after_read port chips.channel }).holding
port_short chips port short true = shown_short _ chips.holding short
port_short chips port short false = short

pub inputs_soon : (port value : ℕ) (old new : Board) → Inputs port old value new → (scene : Scene) → ReadSoon scene old
    → ReadSoon scene new ⊎ ((controller_of new).phase ≡ Command)
inputs_soon port value old new access scene (under, soon, short) = elim (read_between order.Read scene port value old new access under) [
  | inl on ↦ inl (gap (ReadSoon scene) (soon_over scene) (read_from port old) new access.gap
      (on, read_soon scene.disk.words_per_track old.bus.chips port soon (is_controllers port) (port == 0x3F5), port_short old.bus.chips port short (is_controllers port)))
  | inr over ↦ inr over
]

pub inputs_prompt : (port value : ℕ) (old new : Board) → Inputs port old value new → (scene : Scene) → ReadPrompt scene old
    → ReadPrompt scene new ⊎ ((controller_of new).phase ≡ Command) ⊎ Stalled old new
inputs_prompt port value old new access scene (in_time, soon) = read_since (ReadPrompt scene) (prompting scene) port value old new access (elim (read_in_time port value old new access scene in_time) [
  | inl on_time ↦ inl (on_time, read_soon scene.disk.words_per_track old.bus.chips port soon (is_controllers port) (port == 0x3F5))
  | inr over ↦ inr over
])
