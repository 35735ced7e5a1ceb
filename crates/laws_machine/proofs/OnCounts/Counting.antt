-- The faults of the drives, step by step and access by access.
use Rattle.std.proofs.Common.{◌≡◌, inl, inr, ℕ, ◌==◌, Bool, true, false, Option, Some, None, ap, refl, if◌then◌else◌, sym, ◌∙◌, subst, arith}
use Rattle.laws_machine.proofs.Common.{drive_twice, DriveState, Becomes, Pulses, with_gate, let_pass, Moves, WordTime, IsTime, Closes, Fdc, DataRate, Board, FollowsWrite, Step, counts_of, drive_same, moved, with_motor, becomes_at, FollowsDor, resets, SetsLines, asks, Holds, shown, controller_of, holds_of, is_controllers, port_read, WritesPort, Inputs, Outputs, looked_at, shown_again, Chips, CountsGoOn, regapped, Progress, drive_itself, after_read, controller_after, moved_up_to, dma_stepped}
use Rattle.flop_base.specs.Counters.{DriveGoesOn}
use Rattle.laws_machine.proofs.OnSteps.Drives.{both}
use Rattle.laws_machine.proofs.OnAwaits.Turning.{on_time}
use Rattle.laws_machine.proofs.OnSteps.Runs.{from_start, inputs, outputs, up_to_holding, HoldsGoOn, SameHolds, looked_holds, same_on}
use Rattle.laws_machine.proofs.OnSteps.Transfers.{by_request}

-- the faults of a drive go on
abbrev pub GoesOn : DriveState → DriveState → Type 0
GoesOn old new = DriveGoesOn (counts_of old) (counts_of new)

-- the faults of both drives go on
pub record DrivesGoOn (old new : Board) : Type 0 where
  pub first : GoesOn old.first new.first
  pub second : GoesOn old.second new.second

-- ---- the calls on a drive

goes_as : (old target new : DriveState) → Becomes target old new → GoesOn old new
goes_as old target new becomes = record { never_falls = becomes.never_falls; spends = becomes.spends }

goes_at : (old target new : DriveState) → new ≡ target → target.faults ≡ old.faults → target.left ≡ old.left → GoesOn old new
goes_at old target new is faults left = goes_as old target new (becomes_at target old new is faults left)

goes_same : (old new : DriveState) → new ≡ old → GoesOn old new
goes_same old new same = drive_same (counts_of old) (counts_of new) (ap counts_of same)

goes_twice : (a b c : DriveState) → GoesOn a b → GoesOn b c → GoesOn a c
goes_twice a b c first second = drive_twice (counts_of a) (counts_of b) (counts_of c) first second

goes_closed : (closed : Bool) (old new : DriveState) → Closes closed old new → GoesOn old new
goes_closed true old new is = goes_at old (with_gate false old) new is refl refl
goes_closed false old new same = goes_same old new same

goes_pulsed : (inward : Bool) (old new : DriveState) → Pulses inward old new → GoesOn old new
goes_pulsed inward old new (inl moves) = goes_as old (moved inward old) new moves
goes_pulsed inward old new (inr (stays, rose)) = goes_as old old new stays

-- ---- the word time

goes_moved : (pulse : Option Bool) (before after : DriveState) → Moves pulse before after → GoesOn before after
goes_moved None before after is = goes_at before (let_pass before) after is refl refl
goes_moved (Some inward) before after (between, pulses, is) =
    goes_twice before between after (goes_pulsed inward before between pulses) (goes_at between (let_pass between) after is refl refl)

goes_timed : (time : WordTime) (rate : DataRate) (head : ℕ) (before after : DriveState) → IsTime time rate head before after → GoesOn before after
goes_timed time rate head before after is =
    let turns = on_time time rate head before after is in record { never_falls = turns.never_falls; spends = turns.spends }

-- ---- the device step

pub drives_step : (old new : Board) → Step old new → DrivesGoOn old new
drives_step old new step =
    let (first, second) = both GoesOn goes_moved (λ before after heard. goes_as before (let_pass before) after heard) goes_timed old new step in
    record { first = first; second = second }

-- ---- port accesses

pub drives_same : (old new : Board) → new.first ≡ old.first → new.second ≡ old.second → DrivesGoOn old new
drives_same old new first second = record { first = goes_same old.first new.first first; second = goes_same old.second new.second second }

goes_driven : (written : Bool) (bay : ℕ) (controller : Fdc) (before after : DriveState) → FollowsDor written bay controller before after → GoesOn before after
goes_driven true bay controller before after (on, line, is) = goes_at before (with_motor on before) after is refl refl
goes_driven false bay controller before after same = goes_same before after same

goes_followed : (port value bay : ℕ) (controller : Fdc) (before after : DriveState) → FollowsWrite port value bay controller before after → GoesOn before after
goes_followed port value bay controller before after follows =
    goes_twice before follows.between after (goes_driven (port == 0x3F2) bay controller before follows.between follows.motor)
    (goes_closed (resets port value) follows.between after follows.gate)

pub drives_written : (port value : ℕ) (controller : Fdc) (old new : Board) → SetsLines port value controller old new → DrivesGoOn old new
drives_written port value controller old new lines = record {
  first = goes_followed port value 0 controller old.first new.first lines.first;
  second = goes_followed port value 1 controller old.second new.second lines.second;
}

-- ---- counts, step by step and access by access

-- ---- the DMA latencies

holds_on : (a b c : Holds) → HoldsGoOn a b → HoldsGoOn b c → HoldsGoOn a c
holds_on a b c first second =
    let one = first.stalls in let two = second.stalls in let three = first.spent in let four = second.spent in
    record { stalls = omega arith; spent = omega arith }

shown_same : (line : Bool) (old : Holds) → SameHolds old (shown line old)
shown_same true old = record { stalls = refl; entries = refl }
shown_same false old = record { stalls = refl; entries = refl }

shown_after : (line : Bool) (now before : Holds) → now ≡ before → SameHolds before (shown line now)
shown_after line now before is = let same = shown_same line now in
    record { stalls = same.stalls ∙ ap (λ h. h.stalls) is; entries = same.entries ∙ ap (λ h. h.entries) is }

dma_holds : (chips : Chips) → HoldsGoOn chips.holding (dma_stepped chips).holding
dma_holds chips =
    let look = looked_holds (asks chips.controller) chips.holding in
    let then_chips : Chips = moved_up_to 16 (looked_at chips) in
    by_request (λ c. HoldsGoOn chips.holding c.holding) chips (λ _. look) (λ _. look)
    (λ _. holds_on chips.holding (looked_at chips).holding (shown_again then_chips).holding look
    (same_on (looked_at chips).holding (shown_again then_chips).holding
    (shown_after (asks then_chips.controller) then_chips.holding (looked_at chips).holding (up_to_holding 16 (looked_at chips)))))

-- ---- device steps

all_counts : (old new : Board) → DrivesGoOn old new → HoldsGoOn (holds_of old) (holds_of new) → new.bus.taken ≡ old.bus.taken → new.bus.direct ≡ old.bus.direct → CountsGoOn old new
all_counts old new drives holds taken direct =
    record { first = drives.first; second = drives.second; stalls = holds.stalls; spent = holds.spent; taken = taken; direct = direct }

pub counts_on : (a b c : Board) → CountsGoOn a b → CountsGoOn b c → CountsGoOn a c
counts_on a b c first second =
    let one = first.stalls in let two = second.stalls in let three = first.spent in let four = second.spent in
    record {
      first = drive_twice (counts_of a.first) (counts_of b.first) (counts_of c.first) first.first second.first;
      second = drive_twice (counts_of a.second) (counts_of b.second) (counts_of c.second) first.second second.second;
      stalls = omega arith;
      spent = omega arith;
      taken = second.taken ∙ first.taken;
      direct = second.direct ∙ first.direct;
    }

pub counts_same : (board : Board) → CountsGoOn board board
counts_same board = record {
  first = drive_itself (counts_of board.first);
  second = drive_itself (counts_of board.second);
  stalls = omega arith;
  spent = omega arith;
  taken = refl;
  direct = refl;
}

pub step_counts : (old new : Board) → Step old new → CountsGoOn old new
step_counts old new step =
    all_counts old new (drives_step old new step)
    (subst (λ holding. HoldsGoOn (holds_of old) holding) (sym (ap (λ bus. bus.chips.holding) step.bus)) (dma_holds (record old.bus.chips { controller = step.between })))
    (ap (λ bus. bus.taken) step.bus) (ap (λ bus. bus.direct) step.bus)

pub counting : Progress CountsGoOn
counting = record {
  same = counts_same;
  twice = counts_on;
  step = step_counts;
  idle = λ old gaps fresh. all_counts old (regapped gaps fresh old) (drives_same old (regapped gaps fresh old) refl refl)
      (same_on (holds_of old) (holds_of old) (record { stalls = refl; entries = refl })) refl refl;
}

-- ---- port accesses

pub input_counts : (port value : ℕ) (old new : Board) → Inputs port old value new → CountsGoOn old new
input_counts port value old new access =
    let between : Board = record old { bus = record old.bus { chips = port_read port old.bus.chips; fresh = false } } in
    inputs (CountsGoOn old) (from_start CountsGoOn counting old) port value old new
    (all_counts old between (drives_same old between refl refl) (same_on (holds_of old) (holds_of between) (port_holds (is_controllers port))) refl refl) access
  where
    port_holds : (b : Bool) → SameHolds old.bus.chips.holding
        (if b then shown_again (record old.bus.chips { controller = controller_after port (controller_of old) }) else record old.bus.chips { channel = after_read port old.bus.chips.channel }).holding
    port_holds true = shown_same _ old.bus.chips.holding
    port_holds false = record { stalls = refl; entries = refl }

write_holds : (port value : ℕ) (old between : Board) → (writes : WritesPort port value old between) → (b : Bool) → is_controllers port ≡ b → SameHolds (holds_of old) writes.chips.holding
write_holds port value old between writes true is =
    let (controller, does, after) = writes.writes.controllers is in
    subst (λ chips. SameHolds (holds_of old) chips.holding) (sym after) (shown_same (asks controller) (holds_of old))
write_holds port value old between writes false is =
    subst (λ chips. SameHolds (holds_of old) chips.holding) (sym (writes.writes.channels is)) (record { stalls = refl; entries = refl })

pub output_counts : (port value : ℕ) (old new : Board) → Outputs port value old new → CountsGoOn old new
output_counts port value old new access =
    outputs (CountsGoOn old) (from_start CountsGoOn counting old) port value old new (λ between writes.
    let holds = write_holds port value old between writes (is_controllers port) refl in
    let same : SameHolds (holds_of old) (holds_of between) = subst (λ holding. SameHolds (holds_of old) holding)
    (sym (ap (λ bus. bus.chips.holding) writes.bus)) holds in
    all_counts old between (drives_written port value writes.chips.controller old between writes.lines) (same_on (holds_of old) (holds_of between) same)
    (ap (λ bus. bus.taken) writes.bus) (ap (λ bus. bus.direct) writes.bus)) access
