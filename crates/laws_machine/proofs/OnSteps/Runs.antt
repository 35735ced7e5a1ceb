-- Runs, waits and the gaps of port accesses keep what each device step keeps.
use Rattle.std.proofs.Common.{ℕ, zero, suc, Bool, false, sym, subst, ◌≡◌, ◌⊎◌, inl, inr, nat_lt, true, if◌then◌else◌, refl, ◌∙◌, ap, arith, ◌+◌, ◌≤◌, min, List, [], ◌∷◌}
use Rattle.laws_machine.proofs.Common.{next_entry, rest_of, Board, WritesPort, RunsGap, Inputs, Outputs, Waits, stirred, regapped, Marching, Steady, Progress, to_memory_of, Holds, looked, waited, shown, counted, DmaRequest, Low, High, holds_of, Step, moved_to_memory, moved_from_memory, looked_at, Chips, Stalled, Keeping, moved_up_to, dma_stepped, Rose, Grows, UntilStalled, last_count, long_holds, stalls_with, AreShort, IsShort}
use Rattle.pc_bus.specs.Steps.{Runs, RunsUnset}
use Rattle.laws_machine.proofs.Facts.{if_both, shown_stalls}
use Rattle.pc_bus.specs.Transfers.{moved}
use Rattle.laws_machine.proofs.OnSteps.Transfers.{by_request, up_to}
use Rattle.std.specs.List.{All}
pub use Rattle.laws_machine.specs.OnSteps.Moves.{read_from}

-- ---- the two inductions

pub unset_runs : (n : ℕ) (old new : Board) → RunsUnset n old new → Runs n old new
unfolding Runs RunsUnset
unset_runs zero old new same = same
unset_runs (suc n) old new (between, runs, unset, step) = (between, unset_runs n old between runs, step)

pub march : (P : ℕ → Board → Type 0) → Marching P → (n : ℕ) (old new : Board) → Runs n old new → P 0 old → P n new
unfolding Runs
march P marching zero old new same was = subst (P 0) (sym same) was
march P marching (suc n) old new (between, runs, step) was = marching.step n between new step (march P marching n old between runs was)

-- ---- what follows for each property

pub march_unset : (P : ℕ → Board → Type 0) → Marching P → (n : ℕ) (old new : Board) → RunsUnset n old new → P 0 old → P n new
march_unset P marching n old new runs was = march P marching n old new (unset_runs n old new runs) was

pub march_wait : (P : ℕ → Board → Type 0) → Marching P → (n : ℕ) (old new : Board) → Runs n (stirred old) new → P 0 old → P n new
march_wait P marching n old new runs was = march P marching n (stirred old) new runs (marching.idle 0 old old.bus.gaps false was)

pub march_waits : (P : ℕ → Board → Type 0) → Marching P → (most : ℕ) (set : Bool) (old new : Board) → (waits : Waits most old set new) → P 0 old → P waits.steps new
march_waits P marching most set old new waits was = march_wait P marching waits.steps old new (unset_runs waits.steps (stirred old) new waits.runs) was

pub march_gap : (P : ℕ → Board → Type 0) → Marching P → (between new : Board) → RunsGap between new → P 0 between → P (next_entry between.bus.gaps) new
march_gap P marching between new gap was =
    march P marching (next_entry between.bus.gaps) (regapped (rest_of between.bus.gaps) between.bus.fresh between) new gap.runs
    (marching.idle 0 between (rest_of between.bus.gaps) between.bus.fresh was)

-- ---- steady properties

pub marching : (P : Board → Type 0) → Steady P → Marching (λ n. P)
marching P steady = record { step = λ n. steady.step; idle = λ n. steady.idle }

pub runs : (P : Board → Type 0) → Steady P → (n : ℕ) (old new : Board) → Runs n old new → P old → P new
runs P steady = march (λ n. P) (marching P steady)

pub unset : (P : Board → Type 0) → Steady P → (n : ℕ) (old new : Board) → RunsUnset n old new → P old → P new
unset P steady = march_unset (λ n. P) (marching P steady)

pub wait : (P : Board → Type 0) → Steady P → (n : ℕ) (old new : Board) → Runs n (stirred old) new → P old → P new
wait P steady = march_wait (λ n. P) (marching P steady)

pub waits : (P : Board → Type 0) → Steady P → (most : ℕ) (set : Bool) (old new : Board) → Waits most old set new → P old → P new
waits P steady = march_waits (λ n. P) (marching P steady)

pub gap : (P : Board → Type 0) → Steady P → (between new : Board) → RunsGap between new → P between → P new
gap P steady = march_gap (λ n. P) (marching P steady)

pub inputs : (P : Board → Type 0) → Steady P → (port value : ℕ) (old new : Board) → P (read_from port old) → Inputs port old value new → P new
inputs P steady port value old new was access = gap P steady (read_from port old) new access.gap was

pub outputs : (P : Board → Type 0) → Steady P → (port value : ℕ) (old new : Board) → ((between : Board) → WritesPort port value old between → P between) → Outputs port value old new → P new
outputs P steady port value old new was access = gap P steady access.between new access.gap (was access.between access.writes)

-- ---- relations

pub from_start : (R : Board → Board → Type 0) → Progress R → (start : Board) → Steady (R start)
from_start R progress start = record {
  step = λ old new step was. progress.twice start old new was (progress.step old new step);
  idle = λ old gaps fresh was. progress.twice start old (regapped gaps fresh old) was (progress.idle old gaps fresh);
}

pub goes_runs : (R : Board → Board → Type 0) → Progress R → (n : ℕ) (old new : Board) → Runs n old new → R old new
goes_runs R progress n old new ran = runs (R old) (from_start R progress old) n old new ran (progress.same old)

-- ---- what holds until a late DMA (stall) is counted

-- no transfer changes the DMA latencies
holding_moved : (holding : Holds) (chips : Chips) → chips.holding ≡ holding → (moved chips).holding ≡ holding
unfolding moved
holding_moved holding chips is = if_both (to_memory_of chips.controller) (moved_to_memory chips) (moved_from_memory chips) (λ z. z.holding ≡ holding) is is

pub up_to_holding : (n : ℕ) (chips : Chips) → (moved_up_to n chips).holding ≡ chips.holding
up_to_holding n chips = up_to (λ c. c.holding ≡ chips.holding) (holding_moved chips.holding) n chips refl

-- a request that is low stays so
pub shown_low : (line : Bool) (holding : Holds) → holding.request ≡ Low → (shown line holding).request ≡ Low
shown_low true holding is = is
shown_low false holding is = refl

pub dma_stalls : (chips : Chips) → (dma_stepped chips).holding.stalls ≡ (looked_at chips).holding.stalls
dma_stalls chips = by_request (λ c. c.holding.stalls ≡ (looked_at chips).holding.stalls) chips (λ _. refl) (λ _. refl)
    (λ _. shown_stalls _ (moved_up_to 16 (looked_at chips)).holding ∙ ap (λ (h : Holds). h.stalls) (up_to_holding 16 (looked_at chips)))

-- the count of late DMAs and the DMA latencies that are left
pub record HoldsGoOn (old new : Holds) : Type 0 where
  pub stalls : min old.stalls last_count ≤ new.stalls
  pub spent : new.stalls + long_holds new.entries ≤ old.stalls + long_holds old.entries

-- the same count of late DMAs, and the same DMA latencies
pub record SameHolds (old new : Holds) : Type 0 where
  pub stalls : new.stalls ≡ old.stalls
  pub entries : new.entries ≡ old.entries

pub same_on : (old new : Holds) → SameHolds old new → HoldsGoOn old new
same_on old new same =
    let stalls = same.stalls in let left = ap long_holds same.entries in
    record { stalls = omega arith; spent = omega arith }

by_long : (stalls left : ℕ) (b : Bool) → (min stalls last_count ≤ (if b then counted stalls else stalls))
    × ((if b then counted stalls else stalls) + left ≤ stalls + ((if b then 1 else 0) + left))
by_long stalls left true = (omega arith, omega arith)
by_long stalls left false = (omega arith, omega arith)

taken_holds : (entries : List ℕ) (stalls : ℕ) (request then_request : DmaRequest)
    → HoldsGoOn (record { entries = entries; request = request; stalls = stalls })
    (record { entries = rest_of entries; request = then_request; stalls = stalls_with (next_entry entries) stalls })
taken_holds [] stalls request then_request = record { stalls = omega arith; spent = omega arith }
taken_holds (hold ∷ holds) stalls request then_request = let (grows, spends) = by_long stalls (long_holds holds) (nat_lt 8 hold) in record { stalls = grows; spent = spends }

waited_holds : (request : DmaRequest) (old : Holds) → HoldsGoOn old (waited request old)
waited_holds Low old = let goes = taken_holds old.entries old.stalls old.request (High (next_entry old.entries)) in record { stalls = goes.stalls; spent = goes.spent }
waited_holds (High left) old = same_on old (waited (High left) old) (record { stalls = refl; entries = refl })

pub looked_holds : (line : Bool) (old : Holds) → HoldsGoOn old (looked line old)
looked_holds true old = waited_holds old.request old
looked_holds false old = same_on old (looked false old) (record { stalls = refl; entries = refl })

pub step_grows : (old new : Board) → Step old new → Grows (holds_of old).stalls (holds_of new).stalls
step_grows old new step =
    let chips : Chips = record old.bus.chips { controller = step.between } in
    let is : new.bus.chips.holding.stalls ≡ (looked_at chips).holding.stalls = ap (λ bus. bus.chips.holding.stalls) step.bus ∙ dma_stalls chips in
    subst (Grows (holds_of old).stalls) (sym is) (looked_holds _ old.bus.chips.holding).stalls

pub until_stalled : (P : Board → Type 0) → Keeping P → (start : Board) → Steady (UntilStalled P start)
until_stalled P keeps start = record {
  step = λ old new step was. let grows = was.grows in let more = step_grows old new step in record {
    grows = omega arith;
    holds = elim was.holds [
      | inl on ↦ elim (keeps.step old new step on) [ inl still ↦ inl still | inr rose ↦ inr (omega arith) ]
      | inr rose ↦ inr (omega arith)
    ];
  };
  idle = λ old gaps fresh was. record { grows = was.grows; holds = elim was.holds [ inl on ↦ inl (keeps.idle old gaps fresh on) | inr rose ↦ inr rose ] };
}

begins : (P : Board → Type 0) (start : Board) → P start → UntilStalled P start start
begins P start was = record { grows = omega arith; holds = inl was }

pub gap_until : (P : Board → Type 0) → Keeping P → (between new : Board) → RunsGap between new → P between → P new ⊎ Stalled between new
gap_until P keeps between new ran was = (gap (UntilStalled P between) (until_stalled P keeps between) between new ran (begins P between was)).holds

-- the same since an earlier board with as many late DMAs as the one before the gap
pub gap_since : (P : Board → Type 0) → Keeping P → (old between new : Board) → (holds_of between).stalls ≡ (holds_of old).stalls → RunsGap between new → P between → P new ⊎ Stalled old new
gap_since P keeps old between new same ran was = subst (λ stalls. P new ⊎ Rose stalls (holds_of new).stalls) same (gap_until P keeps between new ran was)

-- ---- DMA latencies stay bytes

next_short : (entries : List ℕ) → All (λ entry. entry ≤ 255) entries → next_entry entries ≤ 255
next_short [] short = omega arith
next_short (entry ∷ rest) short = short 0 entry (omega arith)

rest_short : (entries : List ℕ) → All (λ entry. entry ≤ 255) entries → All (λ entry. entry ≤ 255) (rest_of entries)
rest_short [] short = short
rest_short (entry ∷ rest) short = λ k d within. short (suc k) d (omega arith)

pub waited_short : (request : DmaRequest) (old : Holds) → IsShort request → AreShort old → AreShort (waited request old)
waited_short Low old is short = record { entries = rest_short old.entries short.entries; request = next_short old.entries short.entries }
waited_short (High left) old is short = record { entries = short.entries; request = omega arith }

pub looked_short : (line : Bool) (old : Holds) → AreShort old → AreShort (looked line old)
looked_short false old short = record { entries = short.entries; request = tt }
looked_short true old short = waited_short old.request old short.request short

pub shown_short : (line : Bool) (old : Holds) → AreShort old → AreShort (shown line old)
shown_short false old short = record { entries = short.entries; request = tt }
shown_short true old short = short

dma_short : (chips : Chips) → AreShort chips.holding → AreShort (dma_stepped chips).holding
dma_short chips short =
    let look = looked_short _ chips.holding short in
    by_request (λ c. AreShort c.holding) chips (λ _. look) (λ _. look)
    (λ _. shown_short _ (moved_up_to 16 (looked_at chips)).holding (subst AreShort (sym (up_to_holding 16 (looked_at chips))) look))

pub holds_stay_short : Steady (λ board. AreShort (holds_of board))
holds_stay_short = record {
  step = λ old new step short.
      subst AreShort (sym (ap (λ bus. bus.chips.holding) step.bus)) (dma_short (record old.bus.chips { controller = step.between }) short);
  idle = λ old gaps fresh short. short;
}
