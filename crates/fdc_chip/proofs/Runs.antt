-- Device steps one by one, and those that the inner controller makes at once.
use Rattle.std.proofs.Common.{◌≡◌, ◌≤◌, ℕ, zero, suc, ◌+◌, Bool, true, false, refl, sym, ap, subst, ◌∙◌, arith, add-suc}
use Rattle.std.specs.Prelude.{Option, None, not, ◌&&◌, ◌||◌, if◌then◌else◌}
use Rattle.fdc_chip.proofs.Common.{Front, interrupts_outside, asks_outside, HasLinesOutside, RunsFront, ChipState, with_front, interrupts_chip, asks_chip, drained, is_by_port, HasLinesChip, StepsChip, Follows, PacedSeek, ChipStage, Ready}
use Rattle.fdc_sequencer.specs.Moves.{RunsFrontWith}
use Rattle.fdc_chip.specs.Steps.{RunsChipWith}

pub runs_none : (int drq : Bool) (chip : ChipState) → RunsChipWith int drq 0 chip chip
unfolding RunsChipWith
runs_none int drq chip = refl

pub runs_one : (int drq : Bool) (old new : ChipState) → HasLinesChip int drq old → StepsChip old new → RunsChipWith int drq 1 old new
unfolding RunsChipWith
runs_one int drq old new lines step = (old, refl, lines, step)

-- one device step, after no device steps were made at once
pub runs_after : (none : ℕ) (old between new : ChipState) → none ≡ 0 → RunsChipWith (interrupts_chip old) (asks_chip old) none old between → StepsChip between new
    → RunsChipWith (interrupts_chip old) (asks_chip old) 1 old new
unfolding RunsChipWith
runs_after none old between new is runs step =
    let same : between ≡ old = subst (λ (n : ℕ). RunsChipWith (interrupts_chip old) (asks_chip old) n old between) is runs in
    (old, refl, (refl, refl), subst (λ (chip : ChipState). StepsChip chip new) same step)

-- a run after another is one run
pub runs_plus : (int drq : Bool) (n m : ℕ) (old between new : ChipState) → RunsChipWith int drq n old between → RunsChipWith int drq m between new
    → RunsChipWith int drq (n + m) old new
unfolding RunsChipWith
runs_plus int drq n zero old between new runs more =
    let same : n ≡ n + 0 = omega arith in
    subst (λ (count : ℕ). RunsChipWith int drq count old new) same (subst (RunsChipWith int drq n old) (sym more) runs)
runs_plus int drq n (suc m) old between new runs more =
    subst (λ (count : ℕ). RunsChipWith int drq count old new) (sym (add-suc n m))
    (more.0, runs_plus int drq n m old between more.0 runs more.1, more.2, more.3)

-- a run after another is one run, if the lines are then those that the first run began with
pub runs_on : (int drq : Bool) (n m : ℕ) (old between new : ChipState) → RunsChipWith int drq n old between → HasLinesChip int drq between
    → RunsChipWith (interrupts_chip between) (asks_chip between) m between new → RunsChipWith int drq (n + m) old new
runs_on int drq n m old between new runs lines more =
    runs_plus int drq n m old between new runs
    (subst (λ (int : Bool). RunsChipWith int drq m between new) lines.0
    (subst (λ (drq : Bool). RunsChipWith (interrupts_chip between) drq m between new) lines.1 more))

-- ---- nothing is under way

-- the same chip with this inner controller, with nothing under way and no pulses to come
abbrev idle : ChipState → Front → ChipState
idle chip front = record chip { front = front; stage = Ready; pace = None }

by_none : {A : Type 0} (b : Bool) (x y : A) → (if b && false then x else y) ≡ y
by_none true x y = refl
by_none false x y = refl

none_asks : (b asks : Bool) → ((b && false) && asks) ≡ false
none_asks true asks = refl
none_asks false asks = refl

-- in such a chip whose own INT is down, INT is that of the inner controller, if DOR lets it out; and DRQ is down
idle_interrupts : (chip : ChipState) (front : Front) → chip.interrupts.line ≡ false → interrupts_chip (idle chip front) ≡ (chip.gated && interrupts_outside front)
idle_interrupts chip front down =
    ap (λ up. chip.gated && up) (by_none (is_by_port chip.settings) _ _ ∙ ap (λ line. line || interrupts_outside front) down)

idle_asks : (chip : ChipState) (front : Front) → asks_chip (idle chip front) ≡ false
idle_asks chip front = none_asks (chip.gated && not (is_by_port chip.settings)) (asks_outside front)

-- the lines of one such chip are those of another
idle_lines : (chip : ChipState) (old front : Front) → chip.interrupts.line ≡ false → interrupts_outside old ≡ false → interrupts_outside front ≡ false
    → HasLinesChip (interrupts_chip (idle chip old)) (asks_chip (idle chip old)) (idle chip front)
idle_lines chip old front down was quiet = (
  idle_interrupts chip front down ∙ ap (λ up. chip.gated && up) (quiet ∙ sym was) ∙ sym (idle_interrupts chip old down),
  idle_asks chip front ∙ sym (idle_asks chip old),
)

-- while INT of the inner controller is down, nothing is done after a step
follows_nothing : (chip : ChipState) (front : Front) → interrupts_outside front ≡ false → Follows Ready (idle chip front) (idle chip front)
follows_nothing chip front quiet = (idle chip front, refl, sym (ap (λ b. if b then drained (idle chip front) else idle chip front) quiet))

idle_runs : (chip : ChipState) (drq : Bool) (n : ℕ) (old front : Front) → chip.interrupts.line ≡ false → interrupts_outside old ≡ false
    → RunsFrontWith false drq n old front → interrupts_outside front ≡ false
    → RunsChipWith (interrupts_chip (idle chip old)) (asks_chip (idle chip old)) n (idle chip old) (idle chip front)
unfolding RunsFrontWith RunsChipWith
idle_runs chip drq zero old front down was runs quiet = ap (idle chip) runs
idle_runs chip drq (suc n) old front down was runs quiet = (
  idle chip runs.0,
  idle_runs chip drq n old runs.0 down was runs.1 runs.2.0,
  idle_lines chip old runs.0 down was runs.2.0,
  record { between = front; steps = runs.3; follows = follows_nothing chip front quiet },
)

-- something may be done after the last step of a run
idle_runs_to : (chip : ChipState) (drq : Bool) (n : ℕ) (old front : Front) (new : ChipState) → chip.interrupts.line ≡ false → interrupts_outside old ≡ false
    → 1 ≤ n → RunsFrontWith false drq n old front → Follows Ready (idle chip front) new
    → RunsChipWith (interrupts_chip (idle chip old)) (asks_chip (idle chip old)) n (idle chip old) new
unfolding RunsFrontWith RunsChipWith
idle_runs_to chip drq zero old front new down was some runs follows = absurd (omega (arith, some))
idle_runs_to chip drq (suc n) old front new down was some runs follows = (
  idle chip runs.0,
  idle_runs chip drq n old runs.0 down was runs.1 runs.2.0,
  idle_lines chip old runs.0 down was runs.2.0,
  record { between = front; steps = runs.3; follows = follows },
)

-- at least one device step is made
pub ready_some : (most made : ℕ) (old front : Front) → 1 ≤ most → RunsFront most old made front → 1 ≤ made
unfolding RunsFrontWith
ready_some most zero old front some runs =
    let same : front ≡ old = runs.runs in
    let all : zero ≡ most = runs.all (subst (λ (f : Front). HasLinesOutside (interrupts_outside old) (asks_outside old) f) (sym same) (refl, refl)) in
    absurd (omega (arith, some, all))
ready_some most (suc made) old front some runs = omega arith

pub ready_runs : (most made : ℕ) (old : ChipState) (front : Front) (new : ChipState) → 1 ≤ most → old.stage ≡ Ready → old.pace ≡ None → old.interrupts.line ≡ false
    → interrupts_outside old.front ≡ false → RunsFront most old.front made front → Follows old.stage (with_front front old) new
    → RunsChipWith (interrupts_chip old) (asks_chip old) made old new
ready_runs most made old front new some is stands down quiet runs follows =
    let at : ChipStage → Option PacedSeek → ChipState = λ stage pace. record old { stage = stage; pace = pace } in
    let begins = subst (λ (int : Bool). RunsFrontWith int (asks_outside old.front) made old.front front) quiet runs.runs in
    subst (λ (stage : ChipStage). Follows stage (with_front front (at stage old.pace)) new → RunsChipWith (interrupts_chip (at stage old.pace)) (asks_chip (at stage old.pace)) made (at stage old.pace) new)
    (sym is)
    (subst (λ (pace : Option PacedSeek). Follows Ready (with_front front (at Ready pace)) new → RunsChipWith (interrupts_chip (at Ready pace)) (asks_chip (at Ready pace)) made (at Ready pace) new)
    (sym stands)
    (λ follows. idle_runs_to old (asks_outside old.front) made old.front front new down quiet (ready_some most made old.front front some runs) begins follows))
    follows
