-- Device steps while heads move: neither line changes before their seek ends.
use Rattle.std.proofs.Common.{◌≡◌, inl, inr, ℕ, zero, suc, ◌+◌, ◌-◌, ◌*◌, ◌%◌, ◌<◌, ◌≤◌, max, min, nat_le, nat_lt, Bool, true, false, not, ◌&&◌, ◌||◌, ◌==◌, if◌then◌else◌, Option, Some, None, is_none, is_some, List, [], ◌∷◌, length, slice_index, unwrap_or, refl, sym, ◌∙◌, ap, subst, arith}
use Rattle.std.specs.Prelude.{position}
use Rattle.fdc_chip.proofs.Common.{ForSome, and_from, and_parts, and_right, eqb-true, false≢true, not-true, or_right, nat_tests, first_pending, pulses_within, seek_bits, with_motion, Outward, Toward, DriveSeek, awaits_nothing, comes_poll, is_gated, is_held, is_idle, Fdc, steps_ahead, Front, GivesCommand, asks_outside, interrupts_at, interrupts_outside, is_ready, with_controller, StepsFront, recalibrated_at, recalibrated_outside, ChipState, asks_chip, interrupts_chip, passes, passes_at, shows_behind, with_front, AttendsIf, AttendsTo, drained, is_moving, moves_heads, moving, needs_heads, EndsAt, GoesOn, GoesOnIf, Paces, PulsesIf, is_due, is_over, pulses_left, pulses_to, stepped, steps_left, target_of, IsQuietFor, awaits_heads, due_steps, head_steps, is_for_heads, is_settled, is_still_at, quiet_steps, tells_alone, waits_at, is_by_port, step_words, Follows, HasLinesChip, StepsChip, PacedSeek, ChipStage, Ready, Held, Busy, Telling}
use Rattle.std.proofs.Math.Nat.{mul-le-mul_right, suc-mul}
use Rattle.fdc_core.specs.Ranges.{IsInRange}
use Rattle.fdc_chip.specs.Codes.{code_of}
use Rattle.fdc_chip.specs.Orders.{is_format}
use Rattle.fdc_chip.specs.Quiet.{StepsBy}
use Rattle.fdc_chip.specs.declared.code.ChipOpcode.{ChipOpcode}
use Rattle.fdc_chip.specs.declared.order.Order.{Order}
use Rattle.fdc_chip.proofs.Giving.{IsTaking, bit_moves, none_moves, ready_taking, seek_given, taking_idle}
use Rattle.fdc_chip.proofs.Heading.{IsAhead, ahead_down, ahead_drained, bare, bare_ahead, ended_drained, front_goes, none_pending, some_four}

-- ---- the lines

passes_none : (stage : ChipStage) (order : Order) → waits_at stage order ≡ true → passes_at stage ≡ false
passes_none (Busy task) order waits = absurd (false≢true waits)
passes_none _ order waits = refl

no_passes : (chip : ChipState) → passes_at chip.stage ≡ false → passes chip ≡ false
no_passes chip none = ap (λ b. b && not (is_format chip.order && chip.keys == 0)) none

-- where no bytes pass, INT is that of results, and DRQ is down
pub resting_interrupts : (chip : ChipState) → passes_at chip.stage ≡ false → interrupts_chip chip ≡ (chip.gated && (chip.interrupts.line || shows_behind chip.stage chip.front))
resting_interrupts chip none =
    ap (λ b. chip.gated && (if b then asks_outside chip.front else (chip.interrupts.line || shows_behind chip.stage chip.front)))
    (and_right (is_by_port chip.settings) (passes chip) (no_passes chip none))

pub resting_asks : (chip : ChipState) → passes_at chip.stage ≡ false → asks_chip chip ≡ false
resting_asks chip none =
    ap (λ b. b && asks_outside chip.front) (and_right (chip.gated && not (is_by_port chip.settings)) (passes chip) (no_passes chip none))

shows_none : (stage : ChipStage) (front : Front) → interrupts_outside front ≡ false → shows_behind stage front ≡ false
shows_none Ready front down = down
shows_none _ front down = refl

-- ---- what is known

-- only heads move. In so many device steps their seek doesn't end
pub record OnlyMoves (left : ℕ) (chip : ChipState) : Type 0 where
  pub waits : waits_at chip.stage chip.order ≡ true
  pub ahead : IsAhead chip.front
  pub within : left ≤ head_steps chip.pace chip

-- nothing that a line depends on changed
record KeepsLines (old new : ChipState) : Type 0 where
  stage : new.stage ≡ old.stage
  order : new.order ≡ old.order
  gate : new.gated ≡ old.gated
  line : new.interrupts.line ≡ old.interrupts.line
  settings : new.settings ≡ old.settings

keeps_both : (one two three : ChipState) → KeepsLines one two → KeepsLines two three → KeepsLines one three
keeps_both one two three first second = record {
  stage = second.stage ∙ first.stage;
  order = second.order ∙ first.order;
  gate = second.gate ∙ first.gate;
  line = second.line ∙ first.line;
  settings = second.settings ∙ first.settings;
}

keeps_itself : (chip : ChipState) → KeepsLines chip chip
keeps_itself chip = record { stage = refl; order = refl; gate = refl; line = refl; settings = refl }

moving_interrupts : (left : ℕ) (chip : ChipState) → OnlyMoves left chip → interrupts_chip chip ≡ (chip.gated && (chip.interrupts.line || false))
moving_interrupts left chip is =
    resting_interrupts chip (passes_none chip.stage chip.order is.waits)
    ∙ ap (λ b. chip.gated && (chip.interrupts.line || b)) (shows_none chip.stage chip.front (ahead_down chip.front is.ahead))

moving_lines : (some left : ℕ) (old new : ChipState) → OnlyMoves some old → OnlyMoves left new → KeepsLines old new → HasLinesChip (interrupts_chip old) (asks_chip old) new
moving_lines some left old new was is keeps = (
  moving_interrupts left new is
      ∙ (ap (λ b. b && (new.interrupts.line || false)) keeps.gate
      ∙ (ap (λ b. old.gated && (b || false)) keeps.line ∙ sym (moving_interrupts some old was))),
  resting_asks new (passes_none new.stage new.order is.waits) ∙ sym (resting_asks old (passes_none old.stage old.order was.waits)),
)

-- ---- pulses that come in time

one_fewer : (goal : Option ℕ) (cylinder most : ℕ) (b : Bool) → nat_lt cylinder (unwrap_or goal 0) ≡ b
    → pulses_to goal cylinder most ≤ pulses_to goal (if b then cylinder + 1 else cylinder - 1) (most - 1) + 1
one_fewer None cylinder most true is = omega arith
one_fewer None cylinder most false is = omega arith
one_fewer (Some target) cylinder most true is = omega arith
one_fewer (Some target) cylinder most false is = omega arith

-- a pulse leaves one fewer
fewer_left : (words : ℕ) (pace : PacedSeek) → pulses_left pace ≤ pulses_left (stepped words pace) + 1
fewer_left words pace = one_fewer pace.goal pace.cylinder pace.left (nat_lt pace.cylinder (target_of pace)) refl

over_none : (goal : Option ℕ) (cylinder most : ℕ) → ((cylinder == unwrap_or goal 0) || (is_none goal && (most == 0))) ≡ true → pulses_to goal cylinder most ≡ 0
over_none None cylinder most over = by_zero (cylinder == 0) refl over
  where
    by_zero : (b : Bool) → (cylinder == 0) ≡ b → (b || (true && (most == 0))) ≡ true → min cylinder most ≡ 0
    by_zero true none over = let is = eqb-true cylinder 0 none in omega (arith, is)
    by_zero false some over = let is = eqb-true most 0 over in omega (arith, is)
over_none (Some target) cylinder most over = by_there (cylinder == target) refl over
  where
    by_there : (b : Bool) → (cylinder == target) ≡ b → (b || false) ≡ true → (cylinder - target) + (target - cylinder) ≡ 0
    by_there true there over = let same = eqb-true cylinder target there in omega (arith, same)
    by_there false there over = absurd (false≢true over)

-- the next pulse comes so many word times later
after_pulse : (left before pulses words wait : ℕ) → left + 1 ≤ max wait 1 + before * words → nat_le wait 1 ≡ true → before ≤ pulses + 1 → left ≤ max words 1 + pulses * words
after_pulse left before pulses words wait within due fewer =
    let all : before * words ≤ suc pulses * words = mul-le-mul_right words (omega (arith, fewer)) in
    let split = suc-mul pulses words in
    let few : wait ≤ 1 = grind (arith, nat_tests, due) in
    omega (arith, all, split, within, few)

-- the last pulse was given
after_last : (left before words wait : ℕ) → left + 1 ≤ max wait 1 + before * words → nat_le wait 1 ≡ true → before ≡ 0 → left ≡ 0
after_last left before words wait within due none =
    let all = ap (λ n. n * words) none in
    let few : wait ≤ 1 = grind (arith, nat_tests, due) in
    omega (arith, all, within, few)

after_wait : (left all wait : ℕ) → left + 1 ≤ max wait 1 + all → left ≤ max (wait - 1) 1 + all
after_wait left all wait within = omega (arith, within)

-- ---- what the chip does of the seek

-- the chip after its part of the device step. Heads still move
record StillMoves (left : ℕ) (old new : ChipState) : Type 0 where
  ahead : IsAhead new.front
  within : left ≤ head_steps new.pace new
  moves : is_moving new ≡ true
  keeps : KeepsLines old new

some_pace : (pace : Option PacedSeek) (one : PacedSeek) (front : Front) → pace ≡ Some one → (is_some pace || moves_heads front) ≡ true
some_pace pace one front is = ap (λ p. is_some p || moves_heads front) is

-- the seek with which the inner controller comes to a cylinder
abbrev sought_to : ℕ → ℕ → Front → DriveSeek
sought_to unit target start = record { drive = unit % 4; motion = Toward (slice_index start.adapter.controller.seeks.cylinders (unit % 4)) target }

-- the inner controller is given a SEEK
sent_ahead : (unit target : ℕ) (start new : Front) → IsAhead start → seek_bits start.adapter.controller.seeks ≡ 0 → GivesCommand (moving unit (Some target)) start new → IsAhead new × (moves_heads new ≡ true)
sent_ahead unit target start new was rests sends =
    let (through, is) = seek_given unit target start new was.taking rests sends in
    let taking : IsTaking new = record {
      through = through;
      takes = ap (λ (fdc : Fdc). fdc.phase) is ∙ was.taking.takes;
      none = ap (λ (fdc : Fdc). fdc.command) is;
      free = ap is_held is ∙ was.taking.free;
    } in
    let few : unit % 4 < 4 = omega arith in (
      record {
        taking = taking;
        polled = ap (λ (fdc : Fdc). fdc.poll_due) is ∙ was.polled;
        pending = ap (λ (fdc : Fdc). fdc.seeks.pending) is ∙ was.pending;
        down = ap (λ (fdc : Fdc). is_gated fdc && fdc.interrupt) is ∙ was.down;
        four = subst (λ (fdc : Fdc). ForSome fdc.seeks.seek (λ seek. seek.drive < 4)) (sym is) (some_four (sought_to unit target start) few);
      },
      bit_moves new (sought_to unit target start) taking few (ap (λ (fdc : Fdc). fdc.seeks.seek) is),
    )

-- the inner controller is given a RECALIBRATE
given_ahead : (unit pulses : ℕ) (start : Front) → IsAhead start → seek_bits start.adapter.controller.seeks ≡ 0
    → IsAhead (recalibrated_outside unit pulses start) × (moves_heads (recalibrated_outside unit pulses start) ≡ true)
given_ahead unit pulses start was rests =
    let fdc = start.adapter.controller in
    let motion : DriveSeek = record { drive = unit % 4; motion = Outward (pulses_within pulses) } in
    let set : Fdc = record fdc { seeks = with_motion fdc.seeks (unit % 4) (Outward (pulses_within pulses)) } in
    let may : (is_idle fdc && (seek_bits fdc.seeks == 0)) ≡ true = and_from (is_idle fdc) (seek_bits fdc.seeks == 0) (taking_idle start was.taking) (ap (λ n. n == 0) rests) in
    let is : recalibrated_outside unit pulses start ≡ record start { adapter = with_controller set start.adapter } =
    ap (λ s. recalibrated_at s unit pulses start) was.taking.through ∙ ap (λ b. record start { adapter = with_controller (if b then set else fdc) start.adapter }) may in
    let few : unit % 4 < 4 = omega arith in
    let taking : IsTaking (record start { adapter = with_controller set start.adapter }) =
    record { through = was.taking.through; takes = was.taking.takes; none = was.taking.none; free = was.taking.free } in
    subst (λ (front : Front). IsAhead front × (moves_heads front ≡ true)) (sym is) (
      record { taking = taking; polled = was.polled; pending = was.pending; down = was.down; four = some_four motion few },
      bit_moves (record start { adapter = with_controller set start.adapter }) motion taking few refl,
    )

-- all but the inner controller and the pulses stays
rest_keeps : (old new : ChipState) (pace : Option PacedSeek) → new ≡ with_front new.front (record old { pace = pace }) → KeepsLines old new
rest_keeps old new pace rest = record {
  stage = ap (λ (chip : ChipState). chip.stage) rest;
  order = ap (λ (chip : ChipState). chip.order) rest;
  gate = ap (λ (chip : ChipState). chip.gated) rest;
  line = ap (λ (chip : ChipState). chip.interrupts.line) rest;
  settings = ap (λ (chip : ChipState). chip.settings) rest;
}

-- the command that ends the seek is given
end_moves : (goal : Option ℕ) (pace : PacedSeek) (start old new : ChipState) → KeepsLines start old → IsAhead old.front → seek_bits old.front.adapter.controller.seeks ≡ 0 → EndsAt goal pace (record old { pace = None }) new → StillMoves 0 start new
end_moves (Some target) pace start old new keeps was rests (sends, rest) =
    let (ahead, moves) = sent_ahead pace.unit target old.front new.front was rests sends in
    record {
      ahead = ahead;
      within = omega arith;
      moves = or_right (is_some new.pace) (moves_heads new.front) moves;
      keeps = keeps_both start old new keeps (rest_keeps old new None rest);
    }
end_moves None pace start old new keeps was rests is =
    let (ahead, moves) = given_ahead pace.unit pace.left old.front was rests in
    subst (StillMoves 0 start) (sym is) (record {
      ahead = ahead;
      within = omega arith;
      moves = moves;
      keeps = keeps_both start old (with_front (recalibrated_outside pace.unit pace.left old.front) (record old { pace = None })) keeps (record { stage = refl; order = refl; gate = refl; line = refl; settings = refl });
    })

-- a pulse is given, or the command that ends the seek
pulses_move : (over : Bool) (left : ℕ) (pace : PacedSeek) (start old new : ChipState) → KeepsLines start old → IsAhead old.front → seek_bits old.front.adapter.controller.seeks ≡ 0 → left + 1 ≤ steps_left (step_words old.settings) pace
    → nat_le pace.wait 1 ≡ true → is_over pace ≡ over → PulsesIf over pace old new → StillMoves left start new
pulses_move true left pace start old new keeps was rests within due over ends =
    let none = after_last left (pulses_left pace) (step_words old.settings) pace.wait within due (over_none pace.goal pace.cylinder pace.left over) in
    subst (λ n. StillMoves n start new) (sym none) (end_moves pace.goal pace start old new keeps was rests ends)
pulses_move false left pace start old new keeps was rests within due over (sends, rest) =
    let words = step_words old.settings in
    let next = stepped words pace in
    let (ahead, moves) = sent_ahead pace.unit next.cylinder old.front new.front was rests sends in
    let kept = rest_keeps old new (Some next) rest in
    let paced : new.pace ≡ Some next = ap (λ (chip : ChipState). chip.pace) rest in
    let few : left ≤ steps_left words next = after_pulse left (pulses_left pace) (pulses_left next) words pace.wait within due (fewer_left words pace) in
    record {
      ahead = ahead;
      within = subst (λ p. left ≤ head_steps p new) (sym paced) (subst (λ settings. left ≤ steps_left (step_words settings) next) (sym kept.settings) few);
      moves = some_pace new.pace next new.front paced;
      keeps = keeps_both start old new keeps kept;
    }

goes_move : (left : ℕ) (pace : PacedSeek) (start old new : ChipState) → KeepsLines start old → IsAhead old.front → left + 1 ≤ steps_left (step_words old.settings) pace → GoesOn pace old new → StillMoves left start new
goes_move left pace start old new keeps was within goes = by_due (is_due pace old) refl goes
  where
    by_due : (due : Bool) → is_due pace old ≡ due → GoesOnIf due pace old new → StillMoves left start new
    by_due true due pulses =
        let (now, stands) = and_parts (nat_le pace.wait 1 && is_ready old.front) (not (moves_heads old.front)) due in
        let time = (and_parts (nat_le pace.wait 1) (is_ready old.front) now).0 in
        let rests = none_moves old.front was.taking was.four (not-true (moves_heads old.front) stands) in
        pulses_move (is_over pace) left pace start old new keeps was rests within time refl pulses
    by_due false due is = subst (StillMoves left start) (sym is) (record {
      ahead = was;
      within = after_wait left (pulses_left pace * step_words old.settings) pace.wait within;
      moves = refl;
      keeps = keeps_both start old (record old { pace = Some (record pace { wait = pace.wait - 1 }) }) keeps (record { stage = refl; order = refl; gate = refl; line = refl; settings = refl });
    })

-- a device step and what the chip does of the seek
paced_moves : (left : ℕ) (pace : Option PacedSeek) (old paced : ChipState) (between : Front) → old.pace ≡ pace → OnlyMoves (left + 1) old → StepsFront old.front between → Paces pace (with_front between old) paced → StillMoves left old paced
paced_moves left None old paced between is was step same = elim (front_goes old.front between was.ahead step) [
  | inl goes ↦
      let most : left + 1 ≤ steps_ahead old.front.adapter = subst (λ p. left + 1 ≤ head_steps p old) is was.within in
      let fewer = goes.fewer in
      let none : paced.pace ≡ None = ap (λ (chip : ChipState). chip.pace) same ∙ is in
      record {
        ahead = subst (λ (chip : ChipState). IsAhead chip.front) (sym same) goes.ahead;
        within = subst (λ p. left ≤ head_steps p paced) (sym none) (subst (λ (chip : ChipState). left ≤ steps_ahead chip.front.adapter) (sym same) (omega (arith, most, fewer)));
        moves = or_right (is_some paced.pace) (moves_heads paced.front) (ap (λ (chip : ChipState). moves_heads chip.front) same ∙ goes.moves (omega (arith, most)));
        keeps = subst (KeepsLines old) (sym same) (record { stage = refl; order = refl; gate = refl; line = refl; settings = refl });
      }
  | inr (ended, none) ↦
      let most : left + 1 ≤ steps_ahead old.front.adapter = subst (λ p. left + 1 ≤ head_steps p old) is was.within in
      absurd (omega (arith, most, none))
]
paced_moves left (Some pace) old paced between is was step goes =
    let set = with_front between old in
    let most : left + 1 ≤ steps_left (step_words old.settings) pace = subst (λ p. left + 1 ≤ head_steps p old) is was.within in
    let kept : KeepsLines old set = record { stage = refl; order = refl; gate = refl; line = refl; settings = refl } in
    elim (front_goes old.front between was.ahead step) [
      | inl on ↦ goes_move left pace old set paced kept on.ahead most (subst (λ c. GoesOn pace c paced) (ahead_drained set on.ahead) goes)
      | inr (ended, none) ↦
          let after = bare ended.cylinders None false set in
          goes_move left pace old after paced (record { stage = refl; order = refl; gate = refl; line = refl; settings = refl }) (bare_ahead ended.cylinders set ended.taking.free) most
          (subst (λ c. GoesOn pace c paced) (ended_drained pace set ended is) goes)
    ]

-- ---- a device step

-- what is known after the chip's part of the step
record StaysMoving (left : ℕ) (old new : ChipState) : Type 0 where
  only : OnlyMoves left new
  keeps : KeepsLines old new

stays_moving : (left : ℕ) (old new : ChipState) → waits_at old.stage old.order ≡ true → StillMoves left old new → StaysMoving left old new
stays_moving left old new waits still = record {
  only = record {
    waits = ap (λ stage. waits_at stage new.order) still.keeps.stage ∙ (ap (λ order. waits_at old.stage order) still.keeps.order ∙ waits);
    ahead = still.ahead;
    within = still.within;
  };
  keeps = still.keeps;
}

-- a command that is held stays held
held_on : (code : Option ChipOpcode) (paced new : ChipState) → is_for_heads code ≡ true → paced.stage ≡ Held → IsAhead paced.front → is_moving paced ≡ true → AttendsTo code paced new → new ≡ paced
held_on None paced new waits held ahead moves attends = absurd (false≢true waits)
held_on (Some code) paced new waits held ahead moves attends =
    let same = ahead_drained paced ahead in
    let busy : (needs_heads code && is_moving (drained paced)) ≡ true = and_from (needs_heads code) (is_moving (drained paced)) waits (ap is_moving same ∙ moves) in
    subst (λ b. AttendsIf b code (drained paced) new) busy attends
    ∙ (ap (λ (chip : ChipState). record chip { stage = Held }) same ∙ ap (λ stage. record paced { stage = stage }) (sym held))

step_moves : (left : ℕ) (old new : ChipState) → OnlyMoves (left + 1) old → StepsChip old new → StaysMoving left old new
step_moves left old new was step = by_stage old.stage refl step.follows
  where
    still : (paced : ChipState) → Paces old.pace (with_front step.between old) paced → StillMoves left old paced
    still paced paces = paced_moves left old.pace old paced step.between refl was step.steps paces

    by_stage : (stage : ChipStage) → old.stage ≡ stage → Follows stage (with_front step.between old) new → StaysMoving left old new
    by_stage Ready at (paced, paces, is) =
        let goes = still paced paces in
        let same : new ≡ paced = is ∙ ap (λ b. if b then drained paced else paced) (ahead_down paced.front goes.ahead) in
        subst (StaysMoving left old) (sym same) (stays_moving left old paced was.waits goes)
    by_stage Held at (paced, paces, attends) =
        let goes = still paced paces in
        let waits : is_for_heads (code_of paced.order.code) ≡ true = ap (λ (order : Order). is_for_heads (code_of order.code)) goes.keeps.order ∙ (sym (ap (λ stage. waits_at stage old.order) at) ∙ was.waits) in
        let same = held_on (code_of paced.order.code) paced new waits (goes.keeps.stage ∙ at) goes.ahead goes.moves attends in
        subst (StaysMoving left old) (sym same) (stays_moving left old paced was.waits goes)
    by_stage (Telling answer read) at paces = stays_moving left old new was.waits (still new paces)
    by_stage (Busy task) at follows = absurd (false≢true (sym (ap (λ stage. waits_at stage old.order) at) ∙ was.waits))

-- ---- many device steps

weaker : (few many : ℕ) (chip : ChipState) → few ≤ many → OnlyMoves many chip → OnlyMoves few chip
weaker few many chip less is = let within = is.within in
    record { waits = is.waits; ahead = is.ahead; within = omega (arith, less, within) }

many_moves : (n left : ℕ) (old new : ChipState) → OnlyMoves (left + n) old → StepsBy n old new → StaysMoving left old new
unfolding StepsBy
many_moves zero left old new was is = subst (StaysMoving left old) (sym is) (record { only = weaker left (left + 0) old (omega arith) was; keeps = keeps_itself old })
many_moves (suc n) left old new was (between, steps, step) =
    let before = many_moves n (left + 1) old between (weaker (left + 1 + n) (left + suc n) old (omega arith) was) steps in
    let after = step_moves left between new before.only step in
    record { only = after.only; keeps = keeps_both old between new before.keeps after.keeps }

moves_quiet : (most : ℕ) (chip : ChipState) → OnlyMoves most chip → IsQuietFor most chip
moves_quiet most chip is n new few steps =
    let after = many_moves n 0 chip new (weaker (0 + n) most chip (omega (arith, few)) is) steps in
    moving_lines most 0 chip new is after.only after.keeps

-- ---- what the chip sees of it

four_none : (pending : List (Option ℕ)) → length pending ≡ 4 → is_some (position is_some pending) ≡ false → pending ≡ none_pending
four_none (None ∷ None ∷ None ∷ None ∷ []) four none = refl
four_none (Some a ∷ b ∷ c ∷ d ∷ []) four none = absurd (false≢true (sym none))
four_none (None ∷ Some b ∷ c ∷ d ∷ []) four none = absurd (false≢true (sym none))
four_none (None ∷ None ∷ Some c ∷ d ∷ []) four none = absurd (false≢true (sym none))
four_none (None ∷ None ∷ None ∷ Some d ∷ []) four none = absurd (false≢true (sym none))
four_none _ four none = absurd (omega arith)

if_parts : (b c : Bool) → (if b then c else false) ≡ true → (b ≡ true) × (c ≡ true)
if_parts true c is = (refl, is)
if_parts false c is = absurd (false≢true is)

if_not_parts : (b c : Bool) → (if b then false else c) ≡ true → (b ≡ false) × (c ≡ true)
if_not_parts true c is = absurd (false≢true is)
if_not_parts false c is = (refl, is)

awaits_ahead : (chip : ChipState) → IsInRange chip.front.adapter.controller → awaits_heads chip ≡ true → (waits_at chip.stage chip.order ≡ true) × IsAhead chip.front
awaits_ahead chip range is =
    let fdc = chip.front.adapter.controller in
    let (waits, rest) = if_parts (waits_at chip.stage chip.order) (if is_ready chip.front then (if interrupts_outside chip.front then false else awaits_nothing fdc) else false) is in
    let (ready, more) = if_parts (is_ready chip.front) (if interrupts_outside chip.front then false else awaits_nothing fdc) rest in
    let (down, nothing) = if_not_parts (interrupts_outside chip.front) (awaits_nothing fdc) more in
    let (due, none) = if_not_parts (comes_poll fdc) (not (is_some (first_pending fdc.seeks))) nothing in
    let taking = ready_taking chip.front ready in
    let unpolled : fdc.poll_due ≡ false = not_due fdc.poll_due (is_held fdc) taking.free due in (
      waits,
      record {
        taking = taking;
        polled = unpolled;
        pending = four_none fdc.seeks.pending range.seeks.pending (not-true (is_some (first_pending fdc.seeks)) none);
        down = sym (ap (λ stage. interrupts_at stage fdc) taking.through) ∙ down;
        four = range.seeks.drive;
      },
    )
  where
    not_due : (due held : Bool) → held ≡ false → (due && not held) ≡ false → due ≡ false
    not_due true held free none = absurd (false≢true (sym none ∙ ap not free))
    not_due false held free none = refl

pub none_quiet : (chip : ChipState) → IsQuietFor 0 chip
unfolding StepsBy
none_quiet chip zero new within is = subst (HasLinesChip (interrupts_chip chip) (asks_chip chip)) (sym is) (refl, refl)
none_quiet chip (suc n) new within steps = absurd (omega (arith, within))

less_quiet : (few many : ℕ) (chip : ChipState) → few ≤ many → IsQuietFor many chip → IsQuietFor few chip
less_quiet few many chip less quiet = λ n new within steps. quiet n new (omega (arith, less, within)) steps

pub due_quiet : (most : ℕ) (chip : ChipState) → IsInRange chip.front.adapter.controller → IsQuietFor (min most (due_steps chip)) chip
due_quiet most chip range = by_awaits (awaits_heads chip) refl
  where
    by_awaits : (b : Bool) → awaits_heads chip ≡ b → IsQuietFor (min most (if b then head_steps chip.pace chip else 0)) chip
    by_awaits true is =
        let (waits, ahead) = awaits_ahead chip range is in
        less_quiet (min most (head_steps chip.pace chip)) (head_steps chip.pace chip) chip (omega arith)
        (moves_quiet (head_steps chip.pace chip) chip (record { waits = waits; ahead = ahead; within = omega arith }))
    by_awaits false is = less_quiet (min most 0) 0 chip (omega arith) (none_quiet chip)

-- the steps that are told where none of the other cases is met
pub quiet_due : (most : ℕ) (chip : ChipState) → is_still_at chip ≡ false → is_settled chip ≡ false → tells_alone chip.stage chip.pace ≡ false → quiet_steps most chip ≡ min most (due_steps chip)
quiet_due most chip still settled tells =
    ap (λ b. if b then most else (if is_settled chip then most else (if tells_alone chip.stage chip.pace then most else min most (due_steps chip)))) still
    ∙ (ap (λ b. if b then most else (if tells_alone chip.stage chip.pace then most else min most (due_steps chip))) settled
    ∙ ap (λ b. if b then most else min most (due_steps chip)) tells)
