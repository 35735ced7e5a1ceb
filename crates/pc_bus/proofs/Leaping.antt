-- Device steps that are made at once are the same as device steps made one by one.
use Rattle.std.proofs.Common.{◌≡◌, ◌≤◌, ◌+◌, ℕ, zero, suc, min, Bool, true, false, ◌||◌, ◌&&◌, not, refl, sym, ap, ◌∙◌, subst, arith, ◌%◌}
use Rattle.flop_base.specs.Counts.{last_count}
use Rattle.drive_model.specs.Drive.{DriveState}
use Rattle.fdc_core.specs.Courses.{HoldsLines}
use Rattle.fdc_core.specs.State.{asks, interrupts}
use Rattle.fdc_core.specs.declared.controller.Fdc.{Fdc}
use Rattle.fdc_core.specs.Drives.WordTimes.{WordTimes}
use Rattle.fdc_core.proofs.drives.PassedTimes.{dor_stays}
use Rattle.irq_events.specs.Latch.{Latch}
use Rattle.irq_events.specs.Entries.{is_stray_due, strays_after, strays_later, AreQuiet}
use Rattle.irq_events.specs.Holds.{is_low, counted}
use Rattle.irq_events.specs.declared.holding.DmaRequest.{DmaRequest}
use Rattle.irq_events.specs.declared.holding.DmaRequest.TheVariants.{Low, High}
use Rattle.pc_bus.proofs.RunSteps.{runs_front, unset_front}
use Rattle.pc_bus.specs.Boards.{Board, controller_of, selected_of, latch_of}
use Rattle.pc_bus.specs.Leaps.{IsCalm, skipped}
use Rattle.pc_bus.specs.Steps.{Step, Runs, RunsUnset, strayed_if, step_begun, step_ended, with_controller, lined}
use Rattle.pc_bus.specs.Transfers.{dma_stepped}
use Rattle.pc_bus.specs.declared.bus.Bus.{Bus}
use Rattle.pc_bus.specs.declared.chips.Chips.{Chips}

-- ---- a device step of a calm bus

pub low_is : (request : DmaRequest) → is_low request ≡ true → request ≡ Low
low_is Low low = refl
low_is (High left) low = absurd cc

-- while the request is low, no byte is moved
dma_calm : (chips : Chips) → asks chips.controller ≡ false → chips.holding.request ≡ Low → dma_stepped chips ≡ chips
unfolding dma_stepped
dma_calm chips quiet low =
    let looks : dma_stepped chips ≡ record chips { holding = record chips.holding { request = Low } } = rw quiet refl in
    looks ∙ ap (λ (r : DmaRequest). record chips { holding = record chips.holding { request = r } }) (sym low)

-- a line that the latch has already seen sets nothing
no_edge : (set level : Bool) → (set || (level && not level)) ≡ set
no_edge true true = refl
no_edge true false = refl
no_edge false true = refl
no_edge false false = refl

seen_again : (latch : Latch) (level : Bool) → latch.level ≡ level → lined level latch ≡ latch
seen_again latch level seen =
    subst (λ (b : Bool). lined b latch ≡ latch) seen
    (ap (λ (set : Bool). record latch { is_set = set }) (no_edge latch.is_set latch.level))

-- the bus after one such step
abbrev stepped : Fdc → Bus → Bus
stepped controller old = with_controller controller (record old { strays = strays_after old.strays; steps = counted old.steps })

step_calm : (old : Bus) (controller : Fdc) → IsCalm old → is_stray_due old.strays ≡ false → HoldsLines old.chips.controller controller
    → stepped controller old ≡ step_ended (with_controller controller (step_begun old))
step_calm old controller calm quiet holds =
    let chips : Chips = record old.chips { controller = controller } in
    let ended : Bool → Chips → Bool → Bus = λ due moved fresh. record old {
      chips = moved;
      latch = lined (interrupts moved.controller) (strayed_if due old.latch);
      strays = strays_after old.strays;
      steps = counted old.steps;
      fresh = fresh;
    } in
    let one : ended (is_stray_due old.strays) (dma_stepped chips) false ≡ ended false (dma_stepped chips) false =
    ap (λ (due : Bool). ended due (dma_stepped chips) false) quiet in
    let two : ended false (dma_stepped chips) false ≡ ended false chips false =
    ap (λ (moved : Chips). ended false moved false) (dma_calm chips (holds.request ∙ calm.asks_not) calm.was_low) in
    let three : ended false chips false ≡ ended false chips old.fresh = ap (ended false chips) (sym calm.stirred) in
    let four : ended false chips old.fresh ≡ stepped controller old =
    ap (λ (latch : Latch). record (stepped controller old) { latch = latch })
    (seen_again old.latch (interrupts controller) (calm.seen ∙ sym holds.interrupt)) in
    sym (one ∙ two ∙ three ∙ four)

calm_stepped : (old : Bus) (controller : Fdc) → IsCalm old → HoldsLines old.chips.controller controller → IsCalm (stepped controller old)
calm_stepped old controller calm holds = record {
  asks_not = holds.request ∙ calm.asks_not;
  was_low = calm.was_low;
  seen = calm.seen ∙ sym holds.interrupt;
  stirred = calm.stirred;
}

-- ---- any number of steps

abbrev leapt : ℕ → Fdc → Bus → Bus
leapt count controller old = with_controller controller (skipped count old)

leapt_none : (old : Bus) (controller : Fdc) → controller ≡ old.chips.controller → old.steps ≤ last_count → leapt 0 controller old ≡ old
unfolding strays_later
leapt_none old controller same range =
    let count : min (old.steps + 0) last_count ≡ old.steps = omega arith in
    ap (λ (fdc : Fdc). leapt 0 fdc old) same ∙ ap (λ (n : ℕ). record old { steps = n }) count

leapt_more : (count : ℕ) (old : Bus) (mid controller : Fdc) → leapt count controller (stepped mid old) ≡ leapt (suc count) controller old
unfolding strays_later
leapt_more count old mid controller =
    let steps : min (counted old.steps + count) last_count ≡ min (old.steps + suc count) last_count = omega arith in
    ap (λ (n : ℕ). record (leapt (suc count) controller old) { steps = n }) steps

times_run : (count : ℕ) (old : Board) (fdc : Fdc) (first second : DriveState)
    → WordTimes count (selected_of old) (controller_of old) old.first old.second fdc first second
    → IsCalm old.bus → AreQuiet count old.bus.strays → old.bus.steps ≤ last_count
    → Runs count old (record { bus = leapt count fdc old.bus; first = first; second = second })
unfolding WordTimes AreQuiet Runs
times_run zero old fdc first second times calm quiet range =
    ap (λ (bus : Bus). record { bus = bus; first = first; second = second }) (leapt_none old.bus fdc times.0 range)
    ∙ ap (λ (drive : DriveState). record { bus = old.bus; first = drive; second = second }) times.1
    ∙ ap (λ (drive : DriveState). record { bus = old.bus; first = old.first; second = drive }) times.2
times_run (suc count) old fdc first second times calm quiet range =
    let mid : Board = record { bus = stepped times.0 old.bus; first = times.1; second = times.2 } in
    let step : Step old mid = record {
      between = times.0;
      word_time = times.3;
      bus = step_calm old.bus times.0 calm quiet.0 times.4;
    } in
    let selects : selected_of old ≡ selected_of mid =
    ap (λ dor. dor.0 % 4) (sym (dor_stays (selected_of old) (controller_of old) old.first old.second times.0 times.1 times.2 times.3)) in
    let left = subst (λ (n : ℕ). WordTimes count n times.0 times.1 times.2 fdc first second) selects times.5 in
    let rest = times_run count mid fdc first second left (calm_stepped old.bus times.0 calm times.4) quiet.1 (omega arith) in
    runs_front count old mid _ step
    (subst (λ (bus : Bus). Runs count mid (record { bus = bus; first = first; second = second })) (leapt_more count old.bus times.0 fdc) rest)

times_unset : (count : ℕ) (old : Board) (fdc : Fdc) (first second : DriveState)
    → WordTimes count (selected_of old) (controller_of old) old.first old.second fdc first second
    → IsCalm old.bus → AreQuiet count old.bus.strays → old.bus.steps ≤ last_count → (latch_of old).is_set ≡ false
    → RunsUnset count old (record { bus = leapt count fdc old.bus; first = first; second = second })
unfolding WordTimes AreQuiet RunsUnset
times_unset zero old fdc first second times calm quiet range unset =
    ap (λ (bus : Bus). record { bus = bus; first = first; second = second }) (leapt_none old.bus fdc times.0 range)
    ∙ ap (λ (drive : DriveState). record { bus = old.bus; first = drive; second = second }) times.1
    ∙ ap (λ (drive : DriveState). record { bus = old.bus; first = old.first; second = drive }) times.2
times_unset (suc count) old fdc first second times calm quiet range unset =
    let mid : Board = record { bus = stepped times.0 old.bus; first = times.1; second = times.2 } in
    let step : Step old mid = record {
      between = times.0;
      word_time = times.3;
      bus = step_calm old.bus times.0 calm quiet.0 times.4;
    } in
    let selects : selected_of old ≡ selected_of mid =
    ap (λ dor. dor.0 % 4) (sym (dor_stays (selected_of old) (controller_of old) old.first old.second times.0 times.1 times.2 times.3)) in
    let left = subst (λ (n : ℕ). WordTimes count n times.0 times.1 times.2 fdc first second) selects times.5 in
    let rest = times_unset count mid fdc first second left (calm_stepped old.bus times.0 calm times.4) quiet.1 (omega arith) unset in
    unset_front count old mid _ unset step
    (subst (λ (bus : Bus). RunsUnset count mid (record { bus = bus; first = first; second = second })) (leapt_more count old.bus times.0 fdc) rest)

-- the steps as the bus counts them
pub leap_runs : (count : ℕ) (old : Board) (controller : Fdc) (new : Bus) (first second : DriveState)
    → WordTimes count (selected_of old) (controller_of old) old.first old.second controller first second
    → new ≡ skipped count (with_controller controller old.bus)
    → IsCalm old.bus → AreQuiet count old.bus.strays → old.bus.steps ≤ last_count
    → Runs count old (record { bus = new; first = first; second = second })
leap_runs count old controller new first second times skips calm quiet range =
    subst (λ (bus : Bus). Runs count old (record { bus = bus; first = first; second = second })) (sym skips)
    (times_run count old controller first second times calm quiet range)

pub leap_unset : (count : ℕ) (old : Board) (controller : Fdc) (new : Bus) (first second : DriveState)
    → WordTimes count (selected_of old) (controller_of old) old.first old.second controller first second
    → new ≡ skipped count (with_controller controller old.bus)
    → IsCalm old.bus → AreQuiet count old.bus.strays → old.bus.steps ≤ last_count → (latch_of old).is_set ≡ false
    → RunsUnset count old (record { bus = new; first = first; second = second })
leap_unset count old controller new first second times skips calm quiet range unset =
    subst (λ (bus : Bus). RunsUnset count old (record { bus = bus; first = first; second = second })) (sym skips)
    (times_unset count old controller first second times calm quiet range unset)
