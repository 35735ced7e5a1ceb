-- Device steps, one by one and many at once.
use Rattle.std.proofs.Common.{◌≡◌, ℕ, zero, suc, ◌+◌, ◌%◌, Bool, refl, sym, ap, ◌∙◌, subst, add-suc, arith}
use Rattle.fdc_sequencer.proofs.Common.{DriveState, AdapterState, HasLines, StepsAdapter, selected_at, asks, interrupts, Fdc, dor_stays}
use Rattle.fdc_sequencer.specs.Adapters.{LeapsAdapter, RunsWith}
use Rattle.fdc_core.specs.Drives.WordTimes.{WordTimes}

pub runs_none : (int drq : Bool) (adapter : AdapterState) → RunsWith int drq 0 adapter adapter
unfolding RunsWith
runs_none int drq adapter = refl

-- a run after another is one run
pub runs_plus : (int drq : Bool) (n m : ℕ) (old between new : AdapterState) → RunsWith int drq n old between → RunsWith int drq m between new
    → RunsWith int drq (n + m) old new
unfolding RunsWith
runs_plus int drq n zero old between new runs more =
    let same : n ≡ n + 0 = omega arith in
    subst (λ (count : ℕ). RunsWith int drq count old new) same (subst (RunsWith int drq n old) (sym more) runs)
runs_plus int drq n (suc m) old between new runs more =
    subst (λ (count : ℕ). RunsWith int drq count old new) (sym (add-suc n m))
    (more.0, runs_plus int drq n m old between more.0 runs more.1, more.2, more.3)

-- a run after another is one run, if the lines are then those that the first run began with
pub runs_on : (int drq : Bool) (n m : ℕ) (old between new : AdapterState) → RunsWith int drq n old between → HasLines int drq between
    → RunsWith (interrupts between.controller) (asks between.controller) m between new → RunsWith int drq (n + m) old new
runs_on int drq n m old between new runs lines more =
    runs_plus int drq n m old between new runs
    (subst (λ (int : Bool). RunsWith int drq m between new) lines.0
    (subst (λ (drq : Bool). RunsWith (interrupts between.controller) drq m between new) lines.1 more))

-- a run after one device step is a run
runs_front : (int drq : Bool) (n : ℕ) (old between new : AdapterState) → HasLines int drq old → StepsAdapter old between
    → RunsWith int drq n between new → RunsWith int drq (suc n) old new
unfolding RunsWith
runs_front int drq zero old between new lines step runs = (old, refl, lines, subst (StepsAdapter old) (sym runs) step)
runs_front int drq (suc n) old between new lines step runs =
    (runs.0, runs_front int drq n old between runs.0 lines step runs.1, runs.2, runs.3)

-- ---- word times at once

-- word times with one drive selected are device steps
pub times_leap : (count : ℕ) (old : AdapterState) (fdc : Fdc) (first second : DriveState)
    → WordTimes count (selected_at old) old.controller old.first old.second fdc first second
    → LeapsAdapter count old (record { controller = fdc; first = first; second = second })
unfolding WordTimes LeapsAdapter
times_leap zero old fdc first second times =
    ap (λ (controller : Fdc). record { controller = controller; first = first; second = second }) times.0
    ∙ ap (λ (drive : DriveState). record { controller = old.controller; first = drive; second = second }) times.1
    ∙ ap (λ (drive : DriveState). record { controller = old.controller; first = old.first; second = drive }) times.2
times_leap (suc count) old fdc first second times =
    let mid : AdapterState = record { controller = times.0; first = times.1; second = times.2 } in
    let selects : selected_at old ≡ selected_at mid =
    ap (λ dor. dor.0 % 4) (sym (dor_stays (selected_at old) old.controller old.first old.second times.0 times.1 times.2 times.3)) in
    let left = subst (λ (n : ℕ). WordTimes count n times.0 times.1 times.2 fdc first second) selects times.5 in
    (mid, times.3, times.4, times_leap count mid fdc first second left)

-- word times in which neither line changes are a run
times_run : (int drq : Bool) (count : ℕ) (old : AdapterState) (fdc : Fdc) (first second : DriveState) → HasLines int drq old
    → WordTimes count (selected_at old) old.controller old.first old.second fdc first second
    → RunsWith int drq count old (record { controller = fdc; first = first; second = second })
unfolding WordTimes RunsWith
times_run int drq zero old fdc first second lines times =
    ap (λ (controller : Fdc). record { controller = controller; first = first; second = second }) times.0
    ∙ ap (λ (drive : DriveState). record { controller = old.controller; first = drive; second = second }) times.1
    ∙ ap (λ (drive : DriveState). record { controller = old.controller; first = old.first; second = drive }) times.2
times_run int drq (suc count) old fdc first second lines times =
    let mid : AdapterState = record { controller = times.0; first = times.1; second = times.2 } in
    let selects : selected_at old ≡ selected_at mid =
    ap (λ dor. dor.0 % 4) (sym (dor_stays (selected_at old) old.controller old.first old.second times.0 times.1 times.2 times.3)) in
    let left = subst (λ (n : ℕ). WordTimes count n times.0 times.1 times.2 fdc first second) selects times.5 in
    runs_front int drq count old mid _ lines times.3
    (times_run int drq count mid fdc first second (times.4.interrupt ∙ lines.0, times.4.request ∙ lines.1) left)

-- word times in which neither line changes are a run from the lines that they begin with
pub leap_runs : (count : ℕ) (old new : AdapterState)
    → WordTimes count (selected_at old) old.controller old.first old.second new.controller new.first new.second
    → RunsWith (interrupts old.controller) (asks old.controller) count old new
leap_runs count old new times =
    times_run (interrupts old.controller) (asks old.controller) count old new.controller new.first new.second (refl, refl) times

-- one device step, after no word times were passed at once
pub runs_one : (none : ℕ) (old between new : AdapterState) → none ≡ 0
    → WordTimes none (selected_at old) old.controller old.first old.second between.controller between.first between.second
    → StepsAdapter between new → RunsWith (interrupts old.controller) (asks old.controller) 1 old new
unfolding RunsWith
runs_one none old between new is times step =
    let same = leap_runs 0 old between
    (subst (λ (n : ℕ). WordTimes n (selected_at old) old.controller old.first old.second between.controller between.first between.second) is times) in
    (old, refl, (refl, refl), subst (λ (adapter : AdapterState). StepsAdapter adapter new) same step)
