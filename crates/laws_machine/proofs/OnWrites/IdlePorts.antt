-- Port accesses of an idle machine.
use Rattle.std.proofs.Common.{◌≡◌, ℕ, ◌%◌, ◌==◌, Bool, true, false, if◌then◌else◌, refl, ◌∙◌, ap, arith, ◌⊎◌, inl, inr, ◌+◌, ◌-◌, ◌≤◌, length, sym, subst}
use Rattle.laws_machine.proofs.Common.{is_executing, given, Seeking, Low, Board, selected_of, Inputs, Outputs, is_controllers, shown_again, Chips, write_leaves, LeavesOthers, HasNoSeek, IsIdle, StaysStill, StaysIdle, read_from, after_read, controller_after, RestsIdle, Rose, DriveState, Fifo, emptied, room_of, begun, WaitsAtFirst, asked, is_overrun, is_reading, asks, is_gated, polled, WordTime, PhaseWaits, phase_counted, WritesIn, Fdc, Phase, Execute, Task, IsInTime, IsReady, looked, DmaRequest, in_time, IsRuled, Stalled, drive_in, Works, Step, can_move, looked_at, fills, fills_task, IsFilling, IsFedInTime, IsOnTime, Keeping, false≢true, grants, moved_up_to, dma_stepped, IsPunctualWrite}
use Rattle.laws_machine.proofs.OnWrites.Guards.{leaving, stilling, still_same, step_leaves}
use Rattle.laws_machine.proofs.OnSteps.Runs.{from_start, gap, shown_low, dma_stalls}
use Rattle.laws_machine.proofs.Facts.{idle_read}
use Rattle.laws_machine.proofs.OnWrites.Gates.{idling, idle_none}
use Rattle.fdc_core.specs.Waiting.{Lasts, LastsIn}
use Rattle.laws_machine.proofs.OnWrites.Filling.{counted_waits, filling_held, filling_low, filling_moved, not_reading, ruled_by}
use Rattle.laws_machine.proofs.OnSteps.Words.{some_drive, dma_executing, dma_overrun, gated_same, polled_fifo}
use Rattle.laws_machine.proofs.OnSteps.Transfers.{by_request, up_to}
use Rattle.laws_machine.proofs.OnReads.Served.{phase_again, served}
use Rattle.laws_machine.proofs.OnSteps.Outcomes.{Outcome, Written, has_time}
use Rattle.laws_machine.proofs.OnQuiet.Steps.{rested}
use Rattle.laws_machine.proofs.OnReads.IdWords.{first_low, flows_in, not_due, ready_low, ready_one}

-- ---- reads

-- what a read of a port leaves of the chips
pub record LeavesChips (old new : Chips) : Type 0 where
  pub memory : new.memory ≡ old.memory
  pub request : old.holding.request ≡ Low → new.holding.request ≡ Low
  pub idle : is_executing old.controller.phase ≡ false → is_executing new.controller.phase ≡ false
  pub asking : new.controller.asking ≡ old.controller.asking
  pub seeks : new.controller.seeks ≡ old.controller.seeks
  pub dor : new.controller.dor ≡ old.controller.dor

by_data : (chips : Chips) (d : Bool) → LeavesChips chips (shown_again (record chips { controller = if d then given chips.controller else chips.controller }))
by_data chips true = record {
  memory = refl;
  request = λ low. shown_low _ chips.holding low;
  idle = idle_read chips.controller.phase;
  asking = refl;
  seeks = refl;
  dor = refl;
}
by_data chips false = record { memory = refl; request = λ low. shown_low _ chips.holding low; idle = λ idle. idle; asking = refl; seeks = refl; dor = refl }

by_port : (chips : Chips) (port : ℕ) (b : Bool)
    → LeavesChips chips (if b then shown_again (record chips { controller = controller_after port chips.controller }) else record chips { channel = after_read port chips.channel })
by_port chips port true = by_data chips (port == 0x3F5)
by_port chips port false = record { memory = refl; request = λ low. low; idle = λ idle. idle; asking = refl; seeks = refl; dor = refl }

pub inputs_idle : (port value : ℕ) (old new : Board) → Inputs port old value new → IsIdle old → RestsIdle old new
inputs_idle port value old new access was =
    let leaves = by_port old.bus.chips port (is_controllers port) in
    let stays = gap (StaysIdle (read_from port old)) (idling (read_from port old)) (read_from port old) new access.gap
    (idle_none (read_from port old) (record { over = leaves.idle was.over; quiet = leaves.asking ∙ was.quiet })) in
    record {
      idle = stays.idle;
      memory = stays.memory ∙ leaves.memory;
      first = stays.first;
      second = stays.second;
      request = λ low. stays.request (leaves.request low);
    }

pub inputs_still : (port value : ℕ) (old new : Board) → Inputs port old value new → HasNoSeek old → StaysStill old new
inputs_still port value old new access was =
    let leaves = by_port old.bus.chips port (is_controllers port) in
    let selects = was.selects in
    let same : selected_of (read_from port old) ≡ selected_of old = ap (λ dor. dor.0 % 4) leaves.dor in
    let between : StaysStill old (read_from port old) = record {
      no_seek = record { selects = omega arith; none = ap (λ (s : Seeking). s.seek) leaves.seeks ∙ was.none };
      first = still_same old.first old.first refl;
      second = still_same old.second old.second refl;
      numbers = ap (λ (s : Seeking). s.cylinders) leaves.seeks;
    } in
    gap (StaysStill old) (stilling old) (read_from port old) new access.gap between

pub inputs_leave : (port value : ℕ) (old new : Board) → Inputs port old value new → LeavesOthers old new
inputs_leave port value old new access =
    let leaves = by_port old.bus.chips port (is_controllers port) in
    gap (LeavesOthers old) (from_start LeavesOthers leaving old) (read_from port old) new access.gap
    (record { dor = ap (λ dor. dor.0) leaves.dor; first = λ _. refl; second = λ _. refl })

-- ---- writes

-- memory and the request after the write
pub record WritesIdle (old new : Chips) : Type 0 where
  pub memory : new.memory ≡ old.memory
  pub request : old.holding.request ≡ Low → new.holding.request ≡ Low

pub outputs_idle : (port value : ℕ) (old new : Board) (access : Outputs port value old new) → IsIdle old → IsIdle access.between → RestsIdle old new
outputs_idle port value old new access was idle =
    let between = access.between in
    let chips = access.writes.chips in
    let at : between.bus.chips ≡ chips = ap (λ bus. bus.chips) access.writes.bus in
    let first = (write_leaves access.writes.lines.first).0 in
    let second = (write_leaves access.writes.lines.second).0 in
    let writes = by_chips (is_controllers port) refl in
    let stays = gap (StaysIdle between) (idling between) between new access.gap (idle_none between idle) in
    record {
      idle = stays.idle;
      memory = stays.memory ∙ (ap (λ c. c.memory) at ∙ writes.memory);
      first = stays.first ∙ first;
      second = stays.second ∙ second;
      request = λ low. stays.request (ap (λ c. c.holding.request) at ∙ writes.request low);
    }
  where
    by_chips : (b : Bool) → is_controllers port ≡ b → WritesIdle old.bus.chips access.writes.chips
    by_chips true is =
        let (controller, written, chips_are) = access.writes.writes.controllers is in
        record { memory = ap (λ c. c.memory) chips_are; request = λ low. ap (λ c. c.holding.request) chips_are ∙ shown_low _ old.bus.chips.holding low }
    by_chips false is =
        let chips_are = access.writes.writes.channels is in
        record { memory = ap (λ c. c.memory) chips_are; request = λ low. ap (λ c. c.holding.request) chips_are ∙ low }

-- ---- A command that takes bytes from memory, on time through device steps

-- ---- the word time

-- after the word time the command goes on with no more bytes in the FIFO, or it is over
pub record GoesOnFilling (fifo : Fifo) (new : Fdc) : Type 0 where
  pub fills_it : is_executing new.phase ≡ true → fills new.phase ≡ true
  pub fewer : is_executing new.phase ≡ true → length new.fifo.bytes ≤ length fifo.bytes

goes_filling : (time : WordTime) (steps : ℕ) (before : DriveState) (old new : Fdc) → Written time steps before old new → GoesOnFilling old.fifo new
goes_filling time steps before old new (Outcome.Continues head_drive later task bytes (fills_on, few, closes) is) =
    record { fills_it = λ _. ap (λ fdc. fills fdc.phase) is ∙ fills_on; fewer = λ _. subst (λ fdc. length fdc.fifo.bytes ≤ length old.fifo.bytes) (sym is) few }
goes_filling time steps before old new (Outcome.Finishes ending head_drive key over is) =
    let idle = ap (λ fdc. is_executing fdc.phase) is in record { fills_it = λ busy. absurd (false≢true (sym idle ∙ busy)); fewer = λ busy. absurd (false≢true (sym idle ∙ busy)) }

phase_fills : (phase : Phase) (asking : Bool) (fifo : Fifo) (polls : Fdc) (before after : DriveState) (new : Fdc) → fills phase ≡ true → WritesIn phase asking fifo polls before after new → GoesOnFilling polls.fifo new
phase_fills (Execute execution) asking fifo polls before after new is writes =
    let does = has_time execution.task execution.head_drive execution.steps asking fifo polls before after new is writes in
    goes_filling does.time execution.steps before polls new does.outcome
phase_fills _ asking fifo polls before after new is writes = absurd (false≢true is)

-- ---- the transfers

left_filling : (reading : Bool) (bytes room : ℕ) → reading ≡ false → room ≡ 16 → (if reading then bytes else room - bytes) ≤ 16
left_filling true bytes room is wide = absurd (false≢true (sym is))
left_filling false bytes room is wide = omega arith

-- a request that was granted is low, or the terminal count came
served_timely : (slack : ℕ) (chips : Chips) → IsFilling slack chips → IsFedInTime (shown_again (moved_up_to 16 chips))
served_timely slack chips was = by_counted (phase_counted then_chips.controller.phase) refl
  where
    then_chips : Chips
    then_chips = moved_up_to 16 chips

    then_is : IsFilling slack (moved_up_to 16 chips)
    then_is = up_to (IsFilling slack) (filling_moved slack) 16 chips was

    ruled : IsRuled chips.controller
    ruled = record { rule = was.rule; room = let wide : room_of chips.controller.fifo.on ≡ 16 = ap room_of was.on in let few = was.room in omega arith }

    quiet : can_move (moved_up_to 16 chips) ≡ false
    quiet = (served 16 chips ruled (left_filling (is_reading chips.controller.phase) (length chips.controller.fifo.bytes) (room_of chips.controller.fifo.on)
        (not_reading chips.controller.phase was.fills_it) (ap room_of was.on))).falls

    by_counted : (counted : Bool) → phase_counted (moved_up_to 16 chips).controller.phase ≡ counted → IsFedInTime (shown_again (moved_up_to 16 chips))
    by_counted true is = record {
      slack = slack;
      filling = filling_held slack (moved_up_to 16 chips) (shown_again (moved_up_to 16 chips)).holding then_is;
      ready = λ uncounted. absurd (false≢true (sym uncounted ∙ is));
    }
    by_counted false is =
        let low : asks (moved_up_to 16 chips).controller ≡ false = first_low (asks (moved_up_to 16 chips).controller) (grants (moved_up_to 16 chips).channel) quiet (then_is.granting is) in
        record {
          slack = 9;
          filling = filling_held 9 (moved_up_to 16 chips) (shown_again (moved_up_to 16 chips)).holding (filling_low slack (moved_up_to 16 chips) then_is low);
          ready = λ _. ready_low (asks (moved_up_to 16 chips).controller) (moved_up_to 16 chips).holding 9 low (omega arith);
        }

-- a command on time after a look at the request
dma_timely : (slack : ℕ) (chips : Chips) → IsFilling slack chips
    → (phase_counted chips.controller.phase ≡ false → IsInTime (looked_at chips).holding.request slack) → IsFedInTime (dma_stepped chips)
dma_timely slack chips was enough =
    let look = filling_held slack chips (looked_at chips).holding was in
    by_request IsFedInTime chips (λ is. record {
      slack = slack;
      filling = look;
      ready = λ uncounted. not_due (looked_at chips).holding.request slack
          (enough uncounted) is;
    })
    (λ masked. record { slack = slack; filling = look; ready = λ uncounted. absurd (false≢true (sym masked ∙ was.granting uncounted)) })
    (λ _. served_timely slack (looked_at chips) look)

-- the line is looked at
behind : (before slack : ℕ) (chips : Chips) → IsFilling slack chips → before ≤ slack + 1
    → (phase_counted chips.controller.phase ≡ false → IsReady chips.holding.request before)
    → (counted : Bool) → phase_counted chips.controller.phase ≡ counted → (line : Bool) → asks chips.controller ≡ line
    → IsFedInTime (dma_stepped chips) ⊎ Rose chips.holding.stalls (looked_at chips).holding.stalls
behind before slack chips was less ready true is line line_is = inl (dma_timely slack chips was (λ uncounted. absurd (false≢true (sym uncounted ∙ is))))
behind before slack chips was less ready false is false line_is =
    let request : (looked_at chips).holding.request ≡ Low = ap (λ b. (looked b chips.holding).request) line_is in
    inl (dma_timely 9 chips (filling_low slack chips was line_is) (λ _. subst (λ r. IsInTime r 9) (sym request) (omega arith)))
behind before slack chips was less ready false is true line_is =
    elim (in_time true chips.holding before slack (ready is) less (λ low. absurd (false≢true (sym low)))) [
      | inl enough ↦ inl (dma_timely slack chips was (λ _. subst (λ b. IsInTime (looked b chips.holding).request slack) (sym line_is) enough))
      | inr rose ↦ inr (subst (λ b. Rose chips.holding.stalls (looked b chips.holding).stalls) (sym line_is) rose)
    ]

-- ---- the device step

lasts_in : (phase : Phase) (old new : Fdc) (slack : ℕ) → is_executing phase ≡ true → LastsIn phase old new → PhaseWaits (slack + 1) phase old.fifo → Lasts slack old new
lasts_in (Execute execution) old new slack busy lasts waits = lasts slack waits
lasts_in _ old new slack busy lasts waits = absurd (false≢true busy)

-- the slack of the step
pub record HasSlack (request : DmaRequest) (old : Fdc) : Type 0 where
  pub after : ℕ
  pub before : ℕ
  pub waits : PhaseWaits (after + 1) old.phase old.fifo
  pub less : before ≤ after + 1
  pub ready : phase_counted old.phase ≡ false → IsReady request before

slack_of : (chips : Chips) → IsFedInTime chips → (counted : Bool) → phase_counted chips.controller.phase ≡ counted → HasSlack chips.holding.request chips.controller
slack_of chips was true is = record {
  after = 0;
  before = 0;
  waits = counted_waits 1 chips.controller.phase chips.controller.fifo was.filling.fills_it is;
  less = omega arith;
  ready = λ uncounted. absurd (false≢true (sym uncounted ∙ is));
}
slack_of chips was false is =
    let ready = was.ready is in
    let some = ready_one chips.holding.request was.slack ready in
    let same : was.slack ≡ was.slack - 1 + 1 = omega arith in
    record {
      after = was.slack - 1;
      before = was.slack;
      waits = subst (λ n. PhaseWaits n chips.controller.phase chips.controller.fifo) same was.filling.waits;
      less = omega arith;
      ready = λ _. ready;
    }

module _ (chips : Chips) (drive : DriveState) (between : Fdc) (after : DriveState) (works : Works chips.controller drive between after)
    (was : IsPunctualWrite chips) where
  -- the command was in execution
  busy_step : is_executing chips.controller.phase ≡ true → (busy : Bool) → is_executing between.phase ≡ busy
      → IsPunctualWrite (dma_stepped (record chips { controller = between })) ⊎ Rose chips.holding.stalls (dma_stepped (record chips { controller = between })).holding.stalls
  busy_step was_busy busy is =
      let timely = was.timely was_busy in
      let slack = slack_of chips timely (phase_counted chips.controller.phase) refl in
      let lasts : Lasts slack.after chips.controller between = lasts_in chips.controller.phase chips.controller between slack.after was_busy works.lasts slack.waits in
      let over : is_overrun (dma_stepped (record chips { controller = between })).controller.phase ≡ false = dma_overrun false (record chips { controller = between }) lasts.no_overrun in
      by_busy timely slack lasts over busy is
    where
      by_busy : (timely : IsFedInTime chips) (slack : HasSlack chips.holding.request chips.controller) (lasts : Lasts slack.after chips.controller between)
          → is_overrun (dma_stepped (record chips { controller = between })).controller.phase ≡ false → (busy : Bool) → is_executing between.phase ≡ busy
          → IsPunctualWrite (dma_stepped (record chips { controller = between })) ⊎ Rose chips.holding.stalls (dma_stepped (record chips { controller = between })).holding.stalls
      by_busy timely slack lasts over false idle =
          inl (record { timely = λ busy. absurd (false≢true (sym (dma_executing false (record chips { controller = between }) idle) ∙ busy)); no_overrun = over })
      by_busy timely slack lasts over true busy =
          let filling = timely.filling in
          let goes = phase_fills chips.controller.phase chips.controller.asking chips.controller.fifo (polled chips.controller) drive after between filling.fills_it works.writes in
          let fills_now = goes.fills_it busy in
          let few = goes.fewer busy in
          let same : length (polled chips.controller).fifo.bytes ≡ length chips.controller.fifo.bytes = ap (λ fifo. length fifo.bytes) (polled_fifo chips.controller) in
          let room = filling.room in
          let flows = flows_in chips.controller.phase chips.controller.asking between was_busy works.flows in
          let then_is : IsFilling slack.after (record chips { controller = between }) = record {
            on = works.stays.on ∙ filling.on;
            threshold = works.stays.threshold ∙ filling.threshold;
            gated = gated_same between chips.controller works.stays.dor filling.gated;
            fills_it = fills_now;
            rule = ruled_by between.phase chips.controller.asking between.asking between.fifo flows;
            room = omega arith;
            granting = λ uncounted. filling.granting (lasts.uncounted uncounted);
            waits = lasts.waits;
          } in
          elim (behind slack.before slack.after (record chips { controller = between }) then_is slack.less
          (λ uncounted. slack.ready (lasts.uncounted uncounted))
          (phase_counted between.phase) refl (asks between) refl) [
            | inl on_time ↦ inl (record { timely = λ _. on_time; no_overrun = over })
            | inr rose ↦ inr (subst (λ stalls. Rose chips.holding.stalls stalls) (sym (dma_stalls (record chips { controller = between }))) rose)
          ]

  -- it was over
  idle_step : is_executing chips.controller.phase ≡ false → IsPunctualWrite (dma_stepped (record chips { controller = between }))
  idle_step idle =
      let same : between.phase ≡ chips.controller.phase =
      (rested chips.controller between (drive.cylinder == 0) idle works.rests).phase in
      record {
        timely = λ busy. absurd (false≢true (sym (dma_executing false (record chips { controller = between }) (ap is_executing same ∙ idle)) ∙ busy));
        no_overrun = dma_overrun false (record chips { controller = between }) (ap is_overrun same ∙ was.no_overrun);
      }

  pub in_step : (busy : Bool) → is_executing chips.controller.phase ≡ busy
      → IsPunctualWrite (dma_stepped (record chips { controller = between })) ⊎ Rose chips.holding.stalls (dma_stepped (record chips { controller = between })).holding.stalls
  in_step true busy = busy_step busy (is_executing between.phase) refl
  in_step false idle = inl (idle_step idle)

pub step_on_time : (old new : Board) → Step old new → IsOnTime old → IsOnTime new ⊎ Stalled old new
step_on_time old new step was =
    let chips = old.bus.chips in
    let leaves = step_leaves old new step in
    let same : selected_of new ≡ selected_of old = ap (λ byte. byte % 4) leaves.dor in
    let selects = was.selects in
    let chips_are : new.bus.chips ≡ dma_stepped (record chips { controller = step.between }) = ap (λ bus. bus.chips) step.bus in
    let result = some_drive (IsPunctualWrite (dma_stepped (record chips { controller = step.between })) ⊎ Rose chips.holding.stalls
    (dma_stepped (record chips { controller = step.between })).holding.stalls) old new was.selects step
    (λ bay works. in_step chips (drive_in old bay) step.between (drive_in new bay) works was.punctual (is_executing chips.controller.phase) refl) in
    elim result [
      | inl on_time ↦ inl (record { selects = omega arith; punctual = subst IsPunctualWrite (sym chips_are) on_time })
      | inr rose ↦ inr (subst (λ now. Rose chips.holding.stalls now.holding.stalls) (sym chips_are) rose)
    ]

-- ---- many

pub on_time : Keeping IsOnTime
on_time = record { step = step_on_time; idle = λ old gaps fresh was. record { selects = was.selects; punctual = was.punctual } }

-- ---- the beginning

-- a command that begins asks for bytes, and can wait nine device steps for them
pub begun_punctual : (chips : Chips) (head_drive : ℕ) (task : Task) (old : Fdc) → fills_task task ≡ true → WaitsAtFirst task → old.fifo.on ≡ true → old.fifo.threshold ≡ 8 → is_gated old ≡ true
    → grants chips.channel ≡ true → chips.holding.request ≡ Low → IsPunctualWrite (shown_again (record chips { controller = asked (begun head_drive task old) }))
begun_punctual chips head_drive task old is waits on threshold gated granting low =
    let fifo = emptied old.fifo.on old.fifo.threshold in
    let new : Fdc = asked (begun head_drive task old) in
    record {
      timely = λ _. record {
        slack = 9;
        filling = record {
          on = on;
          threshold = threshold;
          gated = gated;
          fills_it = is;
          rule = sym (phase_again (begun head_drive task old).phase false fifo);
          room = omega arith;
          granting = λ _. granting;
          waits = waits fifo refl on;
        };
        ready = λ _. subst (λ request. IsReady request 9) (sym (shown_low (asks new) chips.holding low)) (omega arith);
      };
      no_overrun = refl;
    }
