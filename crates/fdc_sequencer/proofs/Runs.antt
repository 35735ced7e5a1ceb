-- Device steps one by one, and those that the adapter makes at once.
use Rattle.std.proofs.Common.{◌≡◌, ℕ, zero, suc, ◌+◌, Bool, true, false, None, refl, sym, ap, subst, ◌∙◌, add-suc, arith}
use Rattle.fdc_sequencer.proofs.Common.{true≢false, AdapterState, RunsTo, StepsAdapter, HoldsLines, is_executing, ending_of_phase, Phase, Execute, asks, interrupts, ending_told, mark_of, Fdc, Front, asks_at, asks_outside, interrupts_at, interrupts_outside, FollowsStep, HasLinesOutside, IsUnderWay, MovesAlong, MovesOn, StepsFront, RunsFront, is_unwanted, judged_if, passed_over_if, FrontStage, Through, Moving}
use Rattle.std.specs.Prelude.{◌&&◌, nat_lt}
use Rattle.fdc_sequencer.specs.Adapters.{LeapsAdapter, RunsWith}
use Rattle.fdc_sequencer.specs.Moves.{LeapsFront, RunsFrontWith}
use Rattle.fdc_sequencer.specs.declared.stage.Moving.{Moving as MovingSector}

pub runs_none : (int drq : Bool) (front : Front) → RunsFrontWith int drq 0 front front
unfolding RunsFrontWith
runs_none int drq front = refl

-- a run after another is one run
pub runs_plus : (int drq : Bool) (n m : ℕ) (old between new : Front) → RunsFrontWith int drq n old between → RunsFrontWith int drq m between new
    → RunsFrontWith int drq (n + m) old new
unfolding RunsFrontWith
runs_plus int drq n zero old between new runs more =
    let same : n ≡ n + 0 = omega arith in
    subst (λ (count : ℕ). RunsFrontWith int drq count old new) same (subst (RunsFrontWith int drq n old) (sym more) runs)
runs_plus int drq n (suc m) old between new runs more =
    subst (λ (count : ℕ). RunsFrontWith int drq count old new) (sym (add-suc n m))
    (more.0, runs_plus int drq n m old between more.0 runs more.1, more.2, more.3)

-- a run after another is one run, if the lines are then those that the first run began with
pub runs_on : (int drq : Bool) (n m : ℕ) (old between new : Front) → RunsFrontWith int drq n old between → HasLinesOutside int drq between
    → RunsFrontWith (interrupts_outside between) (asks_outside between) m between new → RunsFrontWith int drq (n + m) old new
runs_on int drq n m old between new runs lines more =
    runs_plus int drq n m old between new runs
    (subst (λ (int : Bool). RunsFrontWith int drq m between new) lines.0
    (subst (λ (drq : Bool). RunsFrontWith (interrupts_outside between) drq m between new) lines.1 more))

-- a run after one device step is a run
runs_behind : (int drq : Bool) (n : ℕ) (old between new : Front) → HasLinesOutside int drq old → StepsFront old between
    → RunsFrontWith int drq n between new → RunsFrontWith int drq (suc n) old new
unfolding RunsFrontWith
runs_behind int drq zero old between new lines step runs = (old, refl, lines, subst (StepsFront old) (sym runs) step)
runs_behind int drq (suc n) old between new lines step runs =
    (runs.0, runs_behind int drq n old between runs.0 lines step runs.1, runs.2, runs.3)

-- ---- a sector is moved

-- INT is down while a sector is moved
moving_shows : (moving : MovingSector) (front : Front) → front.stage ≡ Moving moving → interrupts_outside front ≡ false
moving_shows moving front at = ap (λ stage. interrupts_at stage front.adapter.controller) at

pub leaps_none : (front : Front) → LeapsFront 0 front front
unfolding LeapsFront
leaps_none front = refl

-- neither line changes in a device step that moves a sector along
along_lines : (int drq : Bool) (old new : Front) → MovesAlong old new → HasLinesOutside int drq old → HasLinesOutside int drq new
along_lines int drq old new along lines = (
  moving_shows along.moving new along.is ∙ sym (moving_shows along.moving old along.was) ∙ lines.0,
  along.request ∙ lines.1,
)

leap_runs_with : (int drq : Bool) (n : ℕ) (old new : Front) → HasLinesOutside int drq old → LeapsFront n old new → RunsFrontWith int drq n old new
unfolding LeapsFront RunsFrontWith
leap_runs_with int drq zero old new lines leaps = leaps
leap_runs_with int drq (suc n) old new lines (mid, step, along, rest) =
    runs_behind int drq n old mid new lines step (leap_runs_with int drq n mid new (along_lines int drq old mid along lines) rest)

-- device steps that are made at once are a run
pub leap_runs : (n : ℕ) (old new : Front) → LeapsFront n old new → RunsFrontWith (interrupts_outside old) (asks_outside old) n old new
leap_runs n old new leaps = leap_runs_with (interrupts_outside old) (asks_outside old) n old new (refl, refl) leaps

-- one device step, after no device steps were made at once
pub runs_one : (none : ℕ) (old between new : Front) → none ≡ 0 → LeapsFront none old between → StepsFront between new
    → RunsFrontWith (interrupts_outside old) (asks_outside old) 1 old new
unfolding LeapsFront RunsFrontWith
runs_one none old between new is leaps step =
    let same : between ≡ old = subst (λ (n : ℕ). LeapsFront n old between) is leaps in
    (old, refl, (refl, refl), subst (λ (front : Front). StepsFront front new) same step)

-- a data command in execution hasn't ended
pub executing_goes : (phase : Phase) → is_executing phase ≡ true → ending_of_phase phase ≡ None
executing_goes (Execute execution) is = refl
executing_goes _ is = absurd (true≢false (sym is))

-- a device step of the adapter in which nothing ends and no mark is met is a device step of the front
under_way_step : (front : Front) (mid : AdapterState) → IsUnderWay front → StepsAdapter front.adapter mid → HoldsLines front.adapter.controller mid.controller
    → StepsFront front (record front { adapter = mid })
under_way_step front mid under steps holds =
    let new : Front = record front { adapter = mid } in
    let wanted : is_unwanted under.moving (mark_of mid.controller) ≡ false = ap (is_unwanted under.moving) holds.mark ∙ under.wanted in
    let was = mark_of front.adapter.controller in
    let moves : MovesOn was None under.moving new new = ap (λ unwanted. passed_over_if unwanted under.moving new) (sym wanted) in
    let goes : ending_told mid.controller ≡ None = holds.ended ∙ under.goes in
    record {
      between = mid;
      steps = steps;
      follows = subst (λ (stage : FrontStage). FollowsStep was stage new new) (sym under.at)
          (subst (λ ending. MovesOn was (judged_if under.moving ending) under.moving new new) (sym goes) moves);
    }

under_way_along : (front : Front) (mid : AdapterState) → IsUnderWay front → HoldsLines front.adapter.controller mid.controller
    → MovesAlong front (record front { adapter = mid })
under_way_along front mid under holds =
    let left = under.moving.left in
    let at : (fdc : Fdc) → asks_at front.stage fdc ≡ (nat_lt 0 left && asks fdc) = λ fdc. ap (λ stage. asks_at stage fdc) under.at in
    record {
      moving = under.moving;
      was = under.at;
      is = under.at;
      request = at mid.controller ∙ ap (λ b. nat_lt 0 left && b) holds.request ∙ sym (at front.adapter.controller);
    }

under_way_on : (front : Front) (mid : AdapterState) → IsUnderWay front → HoldsLines front.adapter.controller mid.controller
    → IsUnderWay (record front { adapter = mid })
under_way_on front mid under holds = record {
  moving = under.moving;
  at = under.at;
  goes = holds.ended ∙ under.goes;
  wanted = ap (is_unwanted under.moving) holds.mark ∙ under.wanted;
}

-- this many such device steps of the adapter are as many of the front
pub front_leaps : (n : ℕ) (front : Front) (new : AdapterState) → IsUnderWay front → LeapsAdapter n front.adapter new → LeapsFront n front (record front { adapter = new })
unfolding LeapsAdapter LeapsFront
front_leaps zero front new under leaps = ap (λ (adapter : AdapterState). record front { adapter = adapter }) leaps
front_leaps (suc n) front new under (mid, step, holds, rest) = (
  record front { adapter = mid },
  under_way_step front mid under step holds,
  under_way_along front mid under holds,
  front_leaps n (record front { adapter = mid }) new (under_way_on front mid under holds) rest,
)

-- ---- nothing is done in front

-- this adapter, with nothing done in front
abbrev through : Front → AdapterState → Front
through front adapter = record front { adapter = adapter; stage = Through }

-- a run of the adapter is a run of the front
through_runs : (int drq : Bool) (n : ℕ) (front : Front) (old new : AdapterState) → RunsWith int drq n old new
    → RunsFrontWith int drq n (through front old) (through front new)
unfolding RunsWith RunsFrontWith
through_runs int drq zero front old new runs = ap (through front) runs
through_runs int drq (suc n) front old new runs = (
  through front runs.0,
  through_runs int drq n front old runs.0 runs.1,
  runs.2,
  record { between = new; steps = runs.3; follows = refl },
)

through_to : (most : ℕ) (front : Front) (old : AdapterState) (steps : ℕ) (new : AdapterState) → RunsTo most old steps new
    → RunsFront most (through front old) steps (through front new)
through_to most front old steps new runs = record {
  within = runs.within;
  runs = through_runs (interrupts old.controller) (asks old.controller) steps front old new runs.runs;
  all = runs.all;
}

-- a run of the adapter is a run of the front, if the front's stage is the one in which it does nothing
pub adapter_runs : (most : ℕ) (front : Front) (steps : ℕ) (new : AdapterState) → front.stage ≡ Through → RunsTo most front.adapter steps new
    → RunsFront most front steps (record front { adapter = new })
adapter_runs most front steps new is runs =
    let with : FrontStage → AdapterState → Front = λ stage adapter. record front { adapter = adapter; stage = stage } in
    subst (λ (stage : FrontStage). RunsFront most (with stage front.adapter) steps (with stage new)) (sym is)
    (through_to most front front.adapter steps new runs)
