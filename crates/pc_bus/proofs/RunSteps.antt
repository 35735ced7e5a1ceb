-- Device steps made one by one, and their count.
use Rattle.std.proofs.Common.{◌≡◌, ℕ, zero, suc, add-suc, ◌+◌, ◌≤◌, min, Bool, false, refl, ap, sym, ◌∙◌, subst, add-one, arith}
use Rattle.flop_base.specs.Counts.{last_count}
use Rattle.pc_bus.specs.Boards.{Board, latch_of}
use Rattle.pc_bus.specs.Steps.{Step, Runs, RunsUnset, RunsToIrq, Waits}

pub runs_none : (board : Board) → Runs 0 board board
unfolding Runs
runs_none board = refl

pub runs_more : (n : ℕ) (old between new : Board) → Runs n old between → Step between new → Runs (n + 1) old new
unfolding Runs
runs_more n old between new runs step = rw add-one (between, runs, step)

pub unset_none : (board : Board) → RunsUnset 0 board board
unfolding RunsUnset
unset_none board = refl

pub unset_more : (n : ℕ) (old between new : Board) → RunsUnset n old between → (latch_of between).is_set ≡ false → Step between new
    → RunsUnset (n + 1) old new
unfolding RunsUnset
unset_more n old between new runs unset step = rw add-one (between, runs, unset, step)

-- each step is counted, until the count has its last value
pub steps_more : (n : ℕ) (old between new : Board) → between.bus.steps ≡ min (old.bus.steps + n) last_count → Step between new
    → new.bus.steps ≡ min (old.bus.steps + (n + 1)) last_count
steps_more n old between new so_far step =
    let one : new.bus.steps ≡ min (between.bus.steps + 1) last_count = ap (λ bus. bus.steps) step.bus in
    one ∙ rw so_far (omega arith)

-- the count of no steps: a count is never more than its last value
pub steps_none : (board : Board) → board.bus.steps ≤ last_count → board.bus.steps ≡ min (board.bus.steps + 0) last_count
steps_none board range = omega arith

-- from the number of steps that were made, and the latch after them, follows what `wait_irq` says
pub waits_of : (most steps : ℕ) (old new : Board) (set : Bool) → RunsToIrq most old steps new → set ≡ (latch_of new).is_set → Waits most old set new
waits_of most steps old new set runs answer =
    record { steps = steps; within = runs.within; runs = runs.runs; answer = answer; all = λ no. runs.all (sym answer ∙ no) }

-- ---- a run after another run, and a run after a step

pub runs_plus : (n m : ℕ) (old between new : Board) → Runs n old between → Runs m between new → Runs (n + m) old new
unfolding Runs
runs_plus n zero old between new runs more =
    let same : n ≡ n + 0 = omega arith in
    subst (λ (count : ℕ). Runs count old new) same (subst (Runs n old) (sym more) runs)
runs_plus n (suc m) old between new runs more =
    subst (λ (count : ℕ). Runs count old new) (sym (add-suc n m)) (more.0, runs_plus n m old between more.0 runs more.1, more.2)

pub unset_plus : (n m : ℕ) (old between new : Board) → RunsUnset n old between → RunsUnset m between new → RunsUnset (n + m) old new
unfolding RunsUnset
unset_plus n zero old between new runs more =
    let same : n ≡ n + 0 = omega arith in
    subst (λ (count : ℕ). RunsUnset count old new) same (subst (RunsUnset n old) (sym more) runs)
unset_plus n (suc m) old between new runs more =
    subst (λ (count : ℕ). RunsUnset count old new) (sym (add-suc n m))
    (more.0, unset_plus n m old between more.0 runs more.1, more.2, more.3)

pub runs_front : (n : ℕ) (old between new : Board) → Step old between → Runs n between new → Runs (suc n) old new
unfolding Runs
runs_front zero old between new step runs = (old, refl, subst (Step old) (sym runs) step)
runs_front (suc n) old between new step runs = (runs.0, runs_front n old between runs.0 step runs.1, runs.2)

pub unset_front : (n : ℕ) (old between new : Board) → (latch_of old).is_set ≡ false → Step old between → RunsUnset n between new
    → RunsUnset (suc n) old new
unfolding RunsUnset
unset_front zero old between new unset step runs = (old, refl, unset, subst (Step old) (sym runs) step)
unset_front (suc n) old between new unset step runs = (runs.0, unset_front n old between runs.0 unset step runs.1, runs.2, runs.3)

-- one step is a run
pub runs_once : (old new : Board) → Step old new → Runs 1 old new
runs_once old new step = runs_more 0 old old new (runs_none old) step

pub unset_once : (old new : Board) → (latch_of old).is_set ≡ false → Step old new → RunsUnset 1 old new
unset_once old new unset step = unset_more 0 old old new (unset_none old) unset step

pub steps_once : (old new : Board) → Step old new → new.bus.steps ≡ min (old.bus.steps + 1) last_count
steps_once old new step = ap (λ bus. bus.steps) step.bus

-- a run before which no step was made
pub runs_behind : (none n : ℕ) (old between new : Board) → none ≡ 0 → Runs none old between → Runs n between new → Runs n old new
runs_behind none n old between new is runs more =
    let all : 0 + n ≡ n = omega arith in
    subst (λ (count : ℕ). Runs count old new) all (runs_plus 0 n old between new (subst (λ (count : ℕ). Runs count old between) is runs) more)

pub unset_behind : (none n : ℕ) (old between new : Board) → none ≡ 0 → RunsUnset none old between → RunsUnset n between new → RunsUnset n old new
unset_behind none n old between new is runs more =
    let all : 0 + n ≡ n = omega arith in
    subst (λ (count : ℕ). RunsUnset count old new) all (unset_plus 0 n old between new (subst (λ (count : ℕ). RunsUnset count old between) is runs) more)

-- a count that rises twice in a row
pub steps_plus : (n m before between now : ℕ) → between ≡ min (before + n) last_count → now ≡ min (between + m) last_count
    → now ≡ min (before + (n + m)) last_count
steps_plus n m before between now first second = second ∙ rw first (omega arith)
