-- How long calls last, besides the gaps after port accesses.
use Rattle.std.proofs.Common.{◌≡◌, ℕ, zero, suc, ◌+◌, ◌≤◌, Bool, List, [], ◌∷◌, refl, ◌∙◌, ap, arith}
use Rattle.laws_machine.proofs.Common.{next_entry, rest_of, Board, RunsGap, Inputs, Outputs, Waits, stirred, irq_taken, regapped, read_from, Acts, Goes, Touches, byte_set, RunsUnset}
use Rattle.pc_bus.specs.Steps.{Runs}
use Rattle.laws_machine.specs.OnSteps.Lasts.{Lasts, clock_of, gap_steps, gaps_left}
use Rattle.laws_machine.proofs.OnSteps.Moves.{goes_on, wait_goes, input_goes, output_goes, goes_counted}
use Rattle.laws_machine.proofs.OnSteps.Runs.{unset_runs}

-- ---- gaps

-- device steps use up no gap
pub runs_gaps : (n : ℕ) (old new : Board) → Runs n old new → new.bus.gaps ≡ old.bus.gaps
unfolding Runs
runs_gaps zero old new same = ap (λ b. b.bus.gaps) same
runs_gaps (suc n) old new (between, runs, step) = ap (λ bus. bus.gaps) step.bus ∙ runs_gaps n old between runs

-- an access uses up the next gap
pub gap_gaps : (between new : Board) → RunsGap between new → new.bus.gaps ≡ rest_of between.bus.gaps
gap_gaps between new gap = runs_gaps (next_entry between.bus.gaps) (regapped (rest_of between.bus.gaps) between.bus.fresh between) new gap.runs

gap_used : (gaps : List ℕ) → next_entry gaps + gap_steps (rest_of gaps) ≡ gap_steps gaps
gap_used [] = refl
gap_used (gap ∷ rest) = refl

-- ---- calls

pub lasts_wait : (n : ℕ) (old new : Board) → Runs n (stirred old) new → Lasts n old new
lasts_wait n old new runs =
    let same : gaps_left new ≡ gaps_left old = ap gap_steps (runs_gaps n (stirred old) new runs) in
    record { steps = n; goes = wait_goes n old new runs; few = omega arith }

pub lasts_unset : (n : ℕ) (old new : Board) → RunsUnset n (stirred old) new → Lasts n old new
lasts_unset n old new runs = lasts_wait n old new (unset_runs n (stirred old) new runs)

pub lasts_input : (port value : ℕ) (old new : Board) → Inputs port old value new → Lasts 0 old new
lasts_input port value old new access =
    let used = gap_used old.bus.gaps in
    let same : gaps_left new ≡ gap_steps (rest_of old.bus.gaps) = ap gap_steps (gap_gaps (read_from port old) new access.gap) in
    record { steps = next_entry old.bus.gaps; goes = input_goes port value old new access; few = omega arith }

pub lasts_output : (port value : ℕ) (old new : Board) → Outputs port value old new → Lasts 0 old new
lasts_output port value old new access =
    let gaps : access.between.bus.gaps ≡ old.bus.gaps = ap (λ bus. bus.gaps) access.writes.bus in
    let used = gap_used old.bus.gaps in
    let same : gaps_left new ≡ gap_steps (rest_of old.bus.gaps) = ap gap_steps (gap_gaps access.between new access.gap ∙ ap rest_of gaps) in
    record { steps = next_entry old.bus.gaps; goes = output_goes port value old new access; few = omega arith }

lasts_act : (old new : Board) → Acts old new → new.bus.gaps ≡ old.bus.gaps → Lasts 0 old new
lasts_act old new acts gaps =
    let same : gaps_left new ≡ gaps_left old = ap gap_steps gaps in
    record { steps = 0; goes = Goes.Does 0 old new Goes.Stays acts; few = omega arith }

pub lasts_taken : (old : Board) → Lasts 0 old (record old { bus = irq_taken old.bus })
lasts_taken old = lasts_act old (record old { bus = irq_taken old.bus }) Acts.Takes refl

pub lasts_set : (address value : ℕ) (old : Board) → Lasts 0 old (record old { bus = byte_set address value old.bus })
lasts_set address value old = lasts_act old (record old { bus = byte_set address value old.bus }) (Acts.Sets address value) refl

pub lasts_handled : (bay : ℕ) (old new : Board) → Touches bay old new → Lasts 0 old new
lasts_handled bay old new touches = lasts_act old new (Acts.Handles bay new touches) (ap (λ bus. bus.gaps) touches.bus)

-- ---- one call after another

pub lasts_none : (old : Board) → Lasts 0 old old
lasts_none old = record { steps = 0; goes = Goes.Stays; few = omega arith }

pub lasts_twice : (n m : ℕ) (a b c : Board) → Lasts n a b → Lasts m b c → Lasts (n + m) a c
lasts_twice n m a b c first second =
    let few = first.few in let more = second.few in
    record { steps = first.steps + second.steps; goes = goes_on a b c first.steps second.steps first.goes second.goes; few = omega arith }

pub lasts_within : (few most : ℕ) (old new : Board) → few ≤ most → Lasts few old new → Lasts most old new
lasts_within few most old new less lasts = let few = lasts.few in record { steps = lasts.steps; goes = lasts.goes; few = omega arith }

pub lasts_waits : (most : ℕ) (set : Bool) (old new : Board) → Waits most old set new → Lasts most old new
lasts_waits most set old new waits = lasts_within waits.steps most old new waits.within (lasts_unset waits.steps old new waits.runs)

-- ---- the clock

pub lasts_clock : (most : ℕ) (old new : Board) → Lasts most old new → clock_of new ≤ clock_of old + most
lasts_clock most old new lasts = let counted = (goes_counted lasts.steps old new lasts.goes).most in let few = lasts.few in omega arith
