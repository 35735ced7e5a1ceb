-- A reset, up to the results of its poll.
use Rattle.std.proofs.Common.{◌≡◌, ◌⊎◌, inl, inr, ℕ, suc, ◌+◌, ◌<◌, Bool, true, false, not, ◌&&◌, ◌||◌, ◌==◌, if◌then◌else◌, nat_lt, Option, Some, None, List, [], ◌∷◌, refl, sym, ◌∙◌, ap, subst, arith}
use Rattle.laws_chip.proofs.Common.{and_from, and_right, false≢true, eqb-true, is_seeking, with_polls, Phase, Taking, resets, is_gated, is_held, Rests, polled, seek_stepped, Fdc, Dor, Front, asks_outside, interrupts_at, interrupts_outside, StepsFront, FrontStage, Through, ChipState, interrupts_chip, passes, passes_at, shows_behind, with_front, drained, drained_one, sensing, Interrupting, is_format, with_byte, Paces, ComesIf, ReadsAt, ReadsChip, TakesByte, WritesChip, latched_by, reset_if, value_behind, is_by_port, Follows, StepsChip, PacedSeek, ChipStage, Ready, Call, Does, is_step, AwaitsPoll, HasPolls, IsFreshBehind, is_of_data_port, polls_from, telling_poll, IsSound, waits_for_heads, ChipTelling as Telling, Seeks as Seeking, commands_stepped as stepped}
use Rattle.fdc_chip.specs.Doing.{drained_by}
use Rattle.fdc_chip.specs.Interrupts.{at_rest}
use Rattle.fdc_chip.specs.Quiet.{rests_at}
use Rattle.laws_chip.proofs.Known.{adapter_stays, by_rests}
use Rattle.laws_chip.proofs.Rests.{taking_stays, through_step}
use Rattle.laws_chip.proofs.SoundCalls.{front_anew}
use Rattle.laws_chip.proofs.UnderWay.{either_way}
use Rattle.laws_chip.proofs.WholeTransfers.{KeepsHeads, call_heads}
use Rattle.fdc_commands.specs.Seeking as seeking
use Rattle.laws_chip.specs.Calls as made

-- ---- the controller in a device step

record IsFresh (due : Bool) (fdc : Fdc) : Type 0 where
  takes : fdc.phase ≡ Taking
  whole : fdc.command ≡ []
  seeks : fdc.seeks ≡ seeking.at_rest
  poll : fdc.poll_due ≡ due
  down : fdc.interrupt ≡ false

-- no poll comes in the device step
stays_fresh : (due track0 : Bool) (old new : Fdc) → IsFresh due old → (old.poll_due && not (is_held old)) ≡ false → Rests track0 (polled old) new → IsFresh due new
stays_fresh due track0 old new was quiet rests =
    let same : polled old ≡ old = ap (λ b. if b then record old { poll_due = false; interrupt = true; seeks = with_polls old.seeks } else old) quiet in
    let is : new ≡ seek_stepped track0 old = taking_stays track0 old new was.takes rests ∙ ap (seek_stepped track0) same in
    record {
      takes = ap (λ (fdc : Fdc). fdc.phase) is ∙ was.takes;
      whole = ap (λ (fdc : Fdc). fdc.command) is ∙ was.whole;
      seeks = ap (λ (fdc : Fdc). fdc.seeks) is ∙ ap (λ (s : Seeking). stepped s track0) was.seeks;
      poll = ap (λ (fdc : Fdc). fdc.poll_due) is ∙ was.poll;
      down = ap (λ (fdc : Fdc). fdc.interrupt) is ∙ (ap (λ i. i || (is_seeking old.seeks && not (is_seeking (stepped old.seeks track0)))) was.down
          ∙ ap (λ (s : Seeking). is_seeking s && not (is_seeking (stepped s track0))) was.seeks);
    }

-- the poll comes
record IsPolled (fdc : Fdc) : Type 0 where
  takes : fdc.phase ≡ Taking
  whole : fdc.command ≡ []
  seeks : fdc.seeks ≡ with_polls seeking.at_rest
  poll : fdc.poll_due ≡ false
  up : fdc.interrupt ≡ true

polls_now : (track0 : Bool) (old new : Fdc) → IsFresh true old → is_held old ≡ false → Rests track0 (polled old) new → IsPolled new
polls_now track0 old new was free rests =
    let due = and_from old.poll_due (not (is_held old)) was.poll (ap not free) in
    let set : Fdc = record old { poll_due = false; interrupt = true; seeks = with_polls old.seeks } in
    let is : new ≡ seek_stepped track0 set = taking_stays track0 old new was.takes rests ∙ ap (λ b. seek_stepped track0 (if b then set else old)) due in
    record {
      takes = ap (λ (fdc : Fdc). fdc.phase) is ∙ was.takes;
      whole = ap (λ (fdc : Fdc). fdc.command) is ∙ was.whole;
      seeks = ap (λ (fdc : Fdc). fdc.seeks) is ∙ ap (λ (s : Seeking). stepped (with_polls s) track0) was.seeks;
      poll = ap (λ (fdc : Fdc). fdc.poll_due) is;
      up = ap (λ (fdc : Fdc). fdc.interrupt) is;
    }

fresh_of : (due : Bool) (front : Front) → IsFreshBehind due front → IsFresh due front.adapter.controller
fresh_of due front is = record { takes = is.takes; whole = is.whole; seeks = is.seeks; poll = is.poll; down = is.down }

-- the front in a device step without a poll
record StaysFresh (due : Bool) (old new : Front) : Type 0 where
  fresh : IsFreshBehind due new
  held : is_held new.adapter.controller ≡ is_held old.adapter.controller

front_fresh : (due : Bool) (old new : Front) → StepsFront old new → IsFreshBehind due old → (due && not (is_held old.adapter.controller)) ≡ false → StaysFresh due old new
front_fresh due old new step was quiet =
    let is = through_step old new step was.through in
    let fdc = old.adapter.controller in
    let waits = ap (λ b. b && not (is_held fdc)) was.poll ∙ quiet in
    let now : IsFresh due step.between.controller = by_rests old.adapter step.between step.steps
    (λ track0 rests. stays_fresh due track0 fdc step.between.controller (fresh_of due old was) waits rests) in
    let stays = adapter_stays old.adapter step.between step.steps in
    subst (StaysFresh due old) (sym is) (record {
      fresh = record { through = was.through; takes = now.takes; whole = now.whole; seeks = now.seeks; poll = now.poll; down = now.down };
      held = ap (λ (dor : Dor). is_held (record fdc { dor = dor })) stays.dor;
    })

fresh_down : (due : Bool) (front : Front) → IsFreshBehind due front → interrupts_outside front ≡ false
fresh_down due front is = let fdc = front.adapter.controller in
    ap (λ stage. interrupts_at stage fdc) is.through ∙ and_right (is_gated fdc) fdc.interrupt is.down

-- ---- a device step of the chip

-- a device step where no command is under way, and no pulses are to come in the time that SPECIFY sets
pub ready_step : (old new : ChipState) (step : StepsChip old new) → old.stage ≡ Ready → old.pace ≡ None
    → new ≡ (if interrupts_outside step.between then drained (with_front step.between old) else with_front step.between old)
ready_step old new step at unpaced =
    let (paced, paces, is) = subst (λ stage. Follows stage (with_front step.between old) new) at step.follows in
    let same : paced ≡ with_front step.between old = subst (λ pace. Paces pace (with_front step.between old) paced) unpaced paces in
    is ∙ ap (λ (chip : ChipState). if interrupts_outside chip.front then drained chip else chip) same

ready_quiet : (old new : ChipState) (step : StepsChip old new) → old.stage ≡ Ready → old.pace ≡ None → interrupts_outside step.between ≡ false → new ≡ with_front step.between old
ready_quiet old new step at unpaced down =
    ready_step old new step at unpaced ∙ ap (λ b. if b then drained (with_front step.between old) else with_front step.between old) down

-- ---- the results are taken over

abbrev pub build : Front → FrontStage → Phase → List ℕ → Seeking → Bool → Bool → Front
build front stage phase command seeks due up = record front {
  stage = stage;
  adapter = record front.adapter { controller = record front.adapter.controller { phase = phase; command = command; seeks = seeks; poll_due = due; interrupt = up } };
}

pub built : (front : Front) (stage : FrontStage) (phase : Phase) (command : List ℕ) (seeks : Seeking) (due up : Bool) → front.stage ≡ stage → front.adapter.controller.phase ≡ phase
    → front.adapter.controller.command ≡ command → front.adapter.controller.seeks ≡ seeks → front.adapter.controller.poll_due ≡ due → front.adapter.controller.interrupt ≡ up
    → front ≡ build front stage phase command seeks due up
built front stage phase command seeks due up a b c d e f =
    let fdc = front.adapter.controller in
    ap (λ x. build front x fdc.phase fdc.command fdc.seeks fdc.poll_due fdc.interrupt) a
    ∙ (ap (λ x. build front stage x fdc.command fdc.seeks fdc.poll_due fdc.interrupt) b
    ∙ (ap (λ x. build front stage phase x fdc.seeks fdc.poll_due fdc.interrupt) c
    ∙ (ap (λ x. build front stage phase command x fdc.poll_due fdc.interrupt) d
    ∙ (ap (λ x. build front stage phase command seeks x fdc.interrupt) e
    ∙ ap (λ x. build front stage phase command seeks due x) f))))

-- the results of the drives below this one were taken over
abbrev taken_at : ℕ → ℕ → Option ℕ
taken_at first drive = if nat_lt drive first then Some (0xC0 + drive) else None

abbrev taking_over : ℕ → Bool → ChipState → Front → ChipState
taking_over first up old front = record old {
  front = build front Through Taking [] (record { cylinders = 0 ∷ 0 ∷ 0 ∷ 0 ∷ []; seek = None; pending = polls_from first }) false (not up);
  interrupts = record { pending = taken_at first 0 ∷ taken_at first 1 ∷ taken_at first 2 ∷ taken_at first 3 ∷ []; cylinders = 0 ∷ 0 ∷ 0 ∷ 0 ∷ []; line = up };
}

drains_first : (old : ChipState) (front : Front) → is_held front.adapter.controller ≡ false → drained_one (taking_over 0 false old front) ≡ taking_over 1 true old front
drains_first old front free = rw free refl

drains_second : (old : ChipState) (front : Front) → is_held front.adapter.controller ≡ false → drained_one (taking_over 1 true old front) ≡ taking_over 2 true old front
drains_second old front free = rw free refl

drains_third : (old : ChipState) (front : Front) → is_held front.adapter.controller ≡ false → drained_one (taking_over 2 true old front) ≡ taking_over 3 true old front
drains_third old front free = rw free refl

drains_fourth : (old : ChipState) (front : Front) → is_held front.adapter.controller ≡ false → drained_one (taking_over 3 true old front) ≡ taking_over 4 true old front
drains_fourth old front free = rw free refl

drains : (old : ChipState) (front : Front) → is_held front.adapter.controller ≡ false → drained (taking_over 0 false old front) ≡ taking_over 4 true old front
unfolding drained_by
drains old front free = search (drains_first, drains_second, drains_third, drains_fourth)

-- the results of all drives are pending, and INT is up
record ArePolled (new : ChipState) : Type 0 where
  polls : HasPolls 0 Ready new
  line : new.interrupts.line ≡ true

poll_step : (old new : ChipState) → IsSound old → AwaitsPoll old → is_held old.front.adapter.controller ≡ false → StepsChip old new → ArePolled new
poll_step old new sound was free step =
    let fdc = old.front.adapter.controller in
    let front = step.between in
    let through = through_step old.front front step.steps was.behind.through in
    let now : IsPolled step.steps.between.controller = by_rests old.front.adapter step.steps.between step.steps.steps
    (λ track0 rests. polls_now track0 fdc step.steps.between.controller (fresh_of true old.front was.behind) free rests) in
    let stays = adapter_stays old.front.adapter step.steps.between step.steps.steps in
    let at : front.stage ≡ Through = ap (λ (f : Front). f.stage) through ∙ was.behind.through in
    let controller : front.adapter.controller ≡ step.steps.between.controller = ap (λ (f : Front). f.adapter.controller) through in
    let dor = ap (λ (c : Fdc). c.dor) controller ∙ stays.dor in
    let unheld : is_held front.adapter.controller ≡ false = ap (λ (d : Dor). is_held (record fdc { dor = d })) dor ∙ free in
    let gated : is_gated front.adapter.controller ≡ true = ap (λ (d : Dor). is_gated (record fdc { dor = d })) dor ∙ sound.lets_out free in
    let polls : IsPolled front.adapter.controller = subst IsPolled (sym controller) now in
    let up : interrupts_outside front ≡ true = ap (λ stage. interrupts_at stage front.adapter.controller) at ∙ and_from (is_gated front.adapter.controller) front.adapter.controller.interrupt gated polls.up in
    let is = ready_step old new step was.stage was.unpaced ∙ ap (λ b. if b then drained (with_front front old) else with_front front old) up in
    let set : with_front front old ≡ record old { front = build front Through Taking [] (with_polls seeking.at_rest) false true; interrupts = at_rest } =
    ap (λ (f : Front). with_front f old) (built front Through Taking [] (with_polls seeking.at_rest) false true at polls.takes polls.whole polls.seeks polls.poll polls.up)
    ∙ ap (λ (i : Interrupting). record old { front = build front Through Taking [] (with_polls seeking.at_rest) false true; interrupts = i }) was.results in
    subst ArePolled (sym (is ∙ (ap drained set ∙ drains old front unheld))) (record {
      polls = record {
        at = was.stage;
        count = was.count;
        pending = refl;
        cylinders = refl;
        unpaced = was.unpaced;
        free = unheld;
        behind = record { through = refl; takes = refl; whole = refl; seeks = refl; poll = refl; down = refl };
      };
      line = refl;
    })

pub polls_come : (old new : ChipState) → IsSound old → AwaitsPoll old → is_held old.front.adapter.controller ≡ false → StepsChip old new → HasPolls 0 Ready new
polls_come old new sound was free step = (poll_step old new sound was free step).polls

-- ---- INT

no_passes : (chip : ChipState) → chip.stage ≡ Ready → passes chip ≡ false
no_passes chip at = ap (λ stage. passes_at stage && not (is_format chip.order && (chip.keys == 0))) at

pub and_true : (b : Bool) → (b && true) ≡ b
and_true true = refl
and_true false = refl

-- where nothing is under way, INT is that of the results, or that of the inner controller
pub ready_interrupts : (chip : ChipState) → chip.stage ≡ Ready → interrupts_chip chip ≡ (chip.gated && (chip.interrupts.line || interrupts_outside chip.front))
ready_interrupts chip at =
    ap (λ b. chip.gated && (if b then asks_outside chip.front else (chip.interrupts.line || shows_behind chip.stage chip.front))) (and_right (is_by_port chip.settings) (passes chip) (no_passes chip at))
    ∙ ap (λ stage. chip.gated && (chip.interrupts.line || shows_behind stage chip.front)) at

pub poll_interrupts : (old new : ChipState) → IsSound old → AwaitsPoll old → is_held old.front.adapter.controller ≡ false → StepsChip old new → interrupts_chip new ≡ new.gated
poll_interrupts old new sound was free step =
    let now = poll_step old new sound was free step in
    ready_interrupts new now.polls.at ∙ (ap (λ b. new.gated && (b || interrupts_outside new.front)) now.line ∙ and_true new.gated)

pub awaits_down : (chip : ChipState) → AwaitsPoll chip → interrupts_chip chip ≡ false
awaits_down chip was =
    ready_interrupts chip was.stage ∙ and_right chip.gated (chip.interrupts.line || interrupts_outside chip.front)
    (ap (λ (i : Interrupting). i.line || interrupts_outside chip.front) was.results ∙ fresh_down true chip.front was.behind)

-- ---- other calls

no_data_reset : (port value : ℕ) → resets port value ≡ true → (port == 0x3F5) ≡ false
no_data_reset port value anew = either_way (port == 0x3F5)
    (λ here. absurd (false≢true (sym (ap (λ p. resets p value) (eqb-true port 0x3F5 here)) ∙ anew)))
    (λ other. other)

pub reset_awaits : (port value : ℕ) (old new : ChipState) → WritesChip port value old new → resets port (value_behind port value) ≡ true → AwaitsPoll new
reset_awaits port value old new writes anew =
    let given = value_behind port value in
    let no_data = no_data_reset port given anew in
    let (front, rest) = writes.others no_data in
    let (is, through) = front_anew port given old.front new.front front no_data anew in
    let set : new ≡ with_front new.front (reset_if true (latched_by port value old)) = subst (λ b. new ≡ with_front new.front (reset_if b (latched_by port value old))) anew rest in
    record {
      stage = ap (λ (chip : ChipState). chip.stage) set;
      count = ap (λ (chip : ChipState). chip.count) set;
      results = ap (λ (chip : ChipState). chip.interrupts) set;
      unpaced = ap (λ (chip : ChipState). chip.pace) set;
      behind = record { through = through; takes = is.takes; whole = is.command; seeks = is.seeks; poll = is.poll; down = is.down };
    }

awaits_kept : (old new : ChipState) → KeepsHeads old new → AwaitsPoll old → AwaitsPoll new
awaits_kept old new keeps was = record {
  stage = keeps.stage ∙ was.stage;
  count = keeps.count ∙ was.count;
  results = keeps.interrupts ∙ was.results;
  unpaced = keeps.pace ∙ was.unpaced;
  behind = record {
    through = keeps.through ∙ was.behind.through;
    takes = keeps.left.phase ∙ was.behind.takes;
    whole = keeps.left.command ∙ was.behind.whole;
    seeks = keeps.left.seeks ∙ was.behind.seeks;
    poll = keeps.left.poll ∙ was.behind.poll;
    down = keeps.left.interrupt ∙ was.behind.down;
  };
}

pub call_awaits : (call : Call) (old new : ChipState) → AwaitsPoll old → Does call old new → is_of_data_port call ≡ false → (is_step call ≡ false) ⊎ (is_held old.front.adapter.controller ≡ true) → AwaitsPoll new
call_awaits made.Steps old new was does other (inl no_step) = absurd (false≢true (sym no_step))
call_awaits made.Steps old new was does other (inr held) =
    let goes = front_fresh true old.front does.between does.steps was.behind (ap not held) in
    let is = ready_quiet old new does was.stage was.unpaced (fresh_down true does.between goes.fresh) in
    subst AwaitsPoll (sym is) (record { stage = was.stage; count = was.count; results = was.results; unpaced = was.unpaced; behind = goes.fresh })
call_awaits (made.Writes port value) old new was does other free = either_way (resets port (value_behind port value))
    (λ anew. reset_awaits port value old new does anew)
    (λ quiet. awaits_kept old new (call_heads (made.Writes port value) old new (ap waits_for_heads was.stage) does refl quiet other) was)
call_awaits call old new was does other free = awaits_kept old new (call_heads call old new (ap waits_for_heads was.stage) does refl refl other) was

-- ---- SENSE INTERRUPT

-- the chip whose results from this drive on are pending
abbrev polling : ℕ → ChipStage → ChipState → ChipState
polling first stage chip = record chip {
  front = build chip.front Through Taking [] seeking.at_rest false false;
  stage = stage;
  count = 0;
  interrupts = record { pending = polls_from first; cylinders = 0 ∷ 0 ∷ 0 ∷ 0 ∷ []; line = chip.interrupts.line };
  pace = None;
}

abbrev chip_of : Front → ChipStage → ℕ → List (Option ℕ) → List ℕ → Option PacedSeek → ChipState → ChipState
chip_of front stage count pending cylinders pace chip = record chip {
  front = front;
  stage = stage;
  count = count;
  interrupts = record { pending = pending; cylinders = cylinders; line = chip.interrupts.line };
  pace = pace;
}

as_polling : (first : ℕ) (stage : ChipStage) (chip : ChipState) → HasPolls first stage chip → chip ≡ polling first stage chip
as_polling first stage chip is =
    let front = build chip.front Through Taking [] seeking.at_rest false false in
    let b = is.behind in
    let i = chip.interrupts in
    ap (λ x. chip_of x chip.stage chip.count i.pending i.cylinders chip.pace chip) (built chip.front Through Taking [] seeking.at_rest false false b.through b.takes b.whole b.seeks b.poll b.down)
    ∙ (ap (λ x. chip_of front x chip.count i.pending i.cylinders chip.pace chip) is.at
    ∙ (ap (λ x. chip_of front stage x i.pending i.cylinders chip.pace chip) is.count
    ∙ (ap (λ x. chip_of front stage 0 x i.cylinders chip.pace chip) is.pending
    ∙ (ap (λ x. chip_of front stage 0 (polls_from first) x chip.pace chip) is.cylinders
    ∙ ap (λ x. chip_of front stage 0 (polls_from first) (0 ∷ 0 ∷ 0 ∷ 0 ∷ []) x chip) is.unpaced))))

-- the result of the lowest drive is given, and INT is down
abbrev sensing_from : ℕ → ChipState → ChipState
sensing_from drive old = record (polling (drive + 1) (telling_poll drive 0) old) {
  order = with_byte 0 8 old.order;
  interrupts = record { pending = polls_from (drive + 1); cylinders = 0 ∷ 0 ∷ 0 ∷ 0 ∷ []; line = false };
}

-- the chip with no result left to take over
abbrev calm : ChipState → ChipState
calm chip = record chip { front = build chip.front Through Taking [] seeking.at_rest false false }

calm_one : (chip : ChipState) → is_held chip.front.adapter.controller ≡ false → drained_one (calm chip) ≡ calm chip
calm_one chip free = rw free refl

calm_drained : (chip : ChipState) → is_held chip.front.adapter.controller ≡ false → drained (calm chip) ≡ calm chip
unfolding drained_by
calm_drained chip free = let same = calm_one chip free in
    ap (λ c. drained_one (drained_one (drained_one c))) same ∙ (ap (λ c. drained_one (drained_one c)) same ∙ (ap drained_one same ∙ same))

senses_from : (drive : ℕ) (old : ChipState) → drive < 4 → sensing (record (polling drive Ready old) { order = with_byte 0 8 old.order }) ≡ sensing_from drive old
senses_from (suc (suc (suc (suc drive)))) old few = absurd (omega arith)
senses_from _ old few = refl

sends_at : (drive : ℕ) (old new : ChipState) → drive < 4 → is_held old.front.adapter.controller ≡ false → TakesByte Ready 8 (polling drive Ready old) new → new ≡ sensing_from drive old
sends_at drive old new few free takes =
    (let came : ComesIf true 8 (polling drive Ready old) new = rw free at takes in came)
    ∙ (ap sensing (calm_drained (record (polling drive Ready old) { order = with_byte 0 8 old.order }) free) ∙ senses_from drive old few)

pub poll_sends : (drive : ℕ) (old new : ChipState) → drive < 4 → HasPolls drive Ready old → WritesChip 0x3F5 8 old new → HasPolls (drive + 1) (telling_poll drive 0) new
poll_sends drive old new few was writes =
    let takes : TakesByte Ready 8 old new = subst (λ stage. TakesByte stage 8 old new) was.at (writes.bytes refl) in
    let is = sends_at drive old new few was.free (subst (λ (chip : ChipState). TakesByte Ready 8 chip new) (as_polling drive Ready old was) takes) in
    subst (HasPolls (drive + 1) (telling_poll drive 0)) (sym is) (record {
      at = refl;
      count = refl;
      pending = refl;
      cylinders = refl;
      unpaced = refl;
      free = was.free;
      behind = record { through = refl; takes = refl; whole = refl; seeks = refl; poll = refl; down = refl };
    })

-- the bytes of the answer are read
read_on : (first : ℕ) (old : ChipState) (stage next : ChipStage) → HasPolls first stage old → HasPolls first next (record old { stage = next })
read_on first old stage next was = record { at = refl; count = was.count; pending = was.pending; cylinders = was.cylinders; unpaced = was.unpaced; free = was.free; behind = was.behind }

pub poll_status : (drive first value : ℕ) (old new : ChipState) → HasPolls first (telling_poll drive 0) old → ReadsChip 0x3F5 old value new → (value ≡ 0xC0 + drive) × HasPolls first (telling_poll drive 1) new
poll_status drive first value old new was reads =
    let (value_is, is) = subst (λ stage. ReadsAt stage old value new) was.at (reads.byte refl) in
    (value_is, subst (HasPolls first (telling_poll drive 1)) (sym is) (read_on first old (telling_poll drive 0) (telling_poll drive 1) was))

pub poll_cylinder : (drive first value : ℕ) (old new : ChipState) → HasPolls first (telling_poll drive 1) old → ReadsChip 0x3F5 old value new → (value ≡ 0) × HasPolls first Ready new
poll_cylinder drive first value old new was reads =
    let (value_is, is) = subst (λ stage. ReadsAt stage old value new) was.at (reads.byte refl) in
    (value_is, subst (HasPolls first Ready) (sym is) (read_on first old (telling_poll drive 1) Ready was))

-- device steps pass in between
polls_on : (first : ℕ) (stage : ChipStage) (old : ChipState) (front : Front) → HasPolls first stage old → StaysFresh false old.front front → HasPolls first stage (with_front front old)
polls_on first stage old front was goes = record {
  at = was.at;
  count = was.count;
  pending = was.pending;
  cylinders = was.cylinders;
  unpaced = was.unpaced;
  free = goes.held ∙ was.free;
  behind = goes.fresh;
}

pub poll_steps : (first : ℕ) (stage : ChipStage) (old new : ChipState) → rests_at stage ≡ true → HasPolls first stage old → StepsChip old new → HasPolls first stage new
poll_steps first Ready old new rests was step =
    let goes = front_fresh false old.front step.between step.steps was.behind refl in
    subst (HasPolls first Ready) (sym (ready_quiet old new step was.at was.unpaced (fresh_down false step.between goes.fresh))) (polls_on first Ready old step.between was goes)
poll_steps first (Telling answer read) old new rests was step =
    let goes = front_fresh false old.front step.between step.steps was.behind refl in
    let follows : Paces old.pace (with_front step.between old) new = subst (λ stage. Follows stage (with_front step.between old) new) was.at step.follows in
    let is : new ≡ with_front step.between old = subst (λ pace. Paces pace (with_front step.between old) new) was.unpaced follows in
    subst (HasPolls first (Telling answer read)) (sym is) (polls_on first (Telling answer read) old step.between was goes)
poll_steps first _ old new rests was step = absurd (false≢true rests)
