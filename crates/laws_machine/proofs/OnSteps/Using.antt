-- How many port accesses calls make, as the gaps after them show.
use Rattle.std.proofs.Common.{◌≡◌, ℕ, zero, suc, ◌+◌, ◌-◌, ◌≤◌, Bool, true, false, List, [], ◌∷◌, length, min, if◌then◌else◌, ◌∙◌, ap, arith}
use Rattle.flop_base.proofs.Costs.{used_none, used_twice, used_within}
use Rattle.laws_machine.proofs.Common.{last_count, next_entry, rest_of, Board, RunsGap, Inputs, Outputs, Waits, stirred, irq_taken, regapped, read_from, counted, latch_of, Touches, byte_set, RunsUnset}
use Rattle.pc_bus.specs.Steps.{Runs}
use Rattle.laws_machine.specs.OnSteps.Uses.{Uses}
use Rattle.laws_machine.proofs.OnSteps.Lasting.{runs_gaps, gap_gaps}
use Rattle.laws_machine.proofs.OnSteps.Runs.{unset_runs}

-- ---- gaps and interrupts

-- device steps take no interrupt
pub runs_taken : (n : ℕ) (old new : Board) → Runs n old new → new.bus.taken ≡ old.bus.taken
unfolding Runs
runs_taken zero old new same = ap (λ b. b.bus.taken) same
runs_taken (suc n) old new (between, runs, step) = ap (λ bus. bus.taken) step.bus ∙ runs_taken n old between runs

gap_taken : (between new : Board) → RunsGap between new → new.bus.taken ≡ between.bus.taken
gap_taken between new gap = runs_taken (next_entry between.bus.gaps) (regapped (rest_of between.bus.gaps) between.bus.fresh between) new gap.runs

one_fewer : (gaps : List ℕ) → length gaps ≤ length (rest_of gaps) + 1
one_fewer [] = omega arith
one_fewer (gap ∷ rest) = omega arith

-- ---- calls

pub uses_none : (old : Board) → Uses 0 old old
uses_none old = used_none (length old.bus.gaps) (length old.bus.gaps) 0 old.bus.taken old.bus.taken (omega arith) (omega arith)

-- a call that uses up no gap, and takes no interrupt
pub stays : (old new : Board) → new.bus.gaps ≡ old.bus.gaps → new.bus.taken ≡ old.bus.taken → Uses 0 old new
stays old new gaps taken =
    let same : length new.bus.gaps ≡ length old.bus.gaps = ap length gaps in
    used_none (length old.bus.gaps) (length new.bus.gaps) 0 old.bus.taken new.bus.taken (omega (arith, same)) (omega (arith, taken))

pub uses_wait : (n : ℕ) (old new : Board) → Runs n (stirred old) new → Uses 0 old new
uses_wait n old new runs = stays old new (runs_gaps n (stirred old) new runs) (runs_taken n (stirred old) new runs)

pub uses_unset : (n : ℕ) (old new : Board) → RunsUnset n (stirred old) new → Uses 0 old new
uses_unset n old new runs = uses_wait n old new (unset_runs n (stirred old) new runs)

pub uses_waits : (most : ℕ) (set : Bool) (old new : Board) → Waits most old set new → Uses 0 old new
uses_waits most set old new waits = uses_unset waits.steps old new waits.runs

pub uses_input : (port value : ℕ) (old new : Board) → Inputs port old value new → Uses 1 old new
uses_input port value old new access =
    let fewer = one_fewer old.bus.gaps in
    let gaps : length new.bus.gaps ≡ length (rest_of old.bus.gaps) = ap length (gap_gaps (read_from port old) new access.gap) in
    let taken : new.bus.taken ≡ old.bus.taken = gap_taken (read_from port old) new access.gap in
    used_none (length old.bus.gaps) (length new.bus.gaps) 1 old.bus.taken new.bus.taken (omega (arith, fewer, gaps)) (omega (arith, taken))

pub uses_output : (port value : ℕ) (old new : Board) → Outputs port value old new → Uses 1 old new
uses_output port value old new access =
    let fewer = one_fewer old.bus.gaps in
    let was : access.between.bus.gaps ≡ old.bus.gaps = ap (λ bus. bus.gaps) access.writes.bus in
    let gaps : length new.bus.gaps ≡ length (rest_of old.bus.gaps) = ap length (gap_gaps access.between new access.gap ∙ ap rest_of was) in
    let taken : new.bus.taken ≡ old.bus.taken = gap_taken access.between new access.gap ∙ ap (λ bus. bus.taken) access.writes.bus in
    used_none (length old.bus.gaps) (length new.bus.gaps) 1 old.bus.taken new.bus.taken (omega (arith, fewer, gaps)) (omega (arith, taken))

taken_if : (set : Bool) (n : ℕ) → min n last_count ≤ (if set then counted n else n)
taken_if true n = omega arith
taken_if false n = omega arith

pub uses_taken : (old : Board) → Uses 0 old (record old { bus = irq_taken old.bus })
uses_taken old =
    let few : length old.bus.gaps ≤ length old.bus.gaps + 0 = omega arith in
    let goes : min (old.bus.taken + 0) last_count ≤ (irq_taken old.bus).taken = (let more = taken_if (latch_of old).is_set old.bus.taken in omega (arith, more)) in
    used_none (length old.bus.gaps) (length old.bus.gaps) 0 old.bus.taken (irq_taken old.bus).taken few goes

pub uses_set : (address value : ℕ) (old : Board) → Uses 0 old (record old { bus = byte_set address value old.bus })
uses_set address value old = uses_none old

pub uses_handled : (bay : ℕ) (old new : Board) → Touches bay old new → Uses 0 old new
uses_handled bay old new touches = stays old new (ap (λ bus. bus.gaps) touches.bus) (ap (λ bus. bus.taken) touches.bus)

-- an interrupt is taken, and then a port is read
pub uses_look : (port value : ℕ) (old new : Board) → (latch_of old).is_set ≡ true → Inputs port (record old { bus = irq_taken old.bus }) value new → Uses 0 old new
uses_look port value old new set access =
    let between : Board = record old { bus = irq_taken old.bus } in
    let fewer = one_fewer old.bus.gaps in
    let gaps : length new.bus.gaps ≡ length (rest_of old.bus.gaps) = ap length (gap_gaps (read_from port between) new access.gap) in
    let taken : new.bus.taken ≡ counted old.bus.taken =
    gap_taken (read_from port between) new access.gap ∙ ap (λ b. if b then counted old.bus.taken else old.bus.taken) set in
    look_fits (length old.bus.gaps) (length new.bus.gaps) old.bus.taken new.bus.taken (omega (arith, fewer, gaps)) taken
  where
    look_fits : (g h a b : ℕ) → g ≤ h + 1 → b ≡ counted a → min (a + (g - h - 0)) last_count ≤ b
    look_fits g h a b few is = omega (arith, few, is)

-- ---- one call after another

pub uses_twice : (n m : ℕ) (a b c : Board) → Uses n a b → Uses m b c → Uses (n + m) a c
uses_twice n m a b c first second = used_twice (length a.bus.gaps) (length b.bus.gaps) (length c.bus.gaps) n m a.bus.taken b.bus.taken c.bus.taken first second

pub uses_within : (few most : ℕ) (old new : Board) → few ≤ most → Uses few old new → Uses most old new
uses_within few most old new less uses = used_within (length old.bus.gaps) (length new.bus.gaps) few most old.bus.taken new.bus.taken less uses
