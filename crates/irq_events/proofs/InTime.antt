-- DMA latencies (holds) of at most 8.
use Rattle.std.proofs.Common.{◌≡◌, ◌⊎◌, inl, inr, ℕ, ◌+◌, ◌≤◌, Bool, true, false, nat_lt, if◌then◌else◌, refl, arith}
use Rattle.std.proofs.lemmas.Bool.Decides.{nat_tests}
use Rattle.flop_base.specs.Counts.{Rose}
use Rattle.irq_events.specs.Entries.{next_entry}
use Rattle.irq_events.specs.Holds.{Holds, IsReady, IsInTime, looked, waited, counted}
use Rattle.irq_events.specs.declared.holding.DmaRequest.{DmaRequest}
use Rattle.irq_events.specs.declared.holding.DmaRequest.TheVariants.{Low, High}

few : (hold : ℕ) → nat_lt 8 hold ≡ false → hold ≤ 8
few hold h = grind (arith, nat_tests)

-- a new request
taken : (hold stalls after : ℕ) → 8 ≤ after → (b : Bool) → nat_lt 8 hold ≡ b → (hold ≤ after) ⊎ Rose stalls (if b then counted stalls else stalls)
taken hold stalls after room true is = inr (omega arith)
taken hold stalls after room false is = inl (let small = few hold is in omega arith)

by_request : (request : DmaRequest) (old : Holds) (before after : ℕ) → IsReady request before → before ≤ after + 1
    → IsInTime (waited request old).request after ⊎ Rose old.stalls (waited request old).stalls
by_request Low old before after ready less = taken (next_entry old.entries) old.stalls after (omega arith) (nat_lt 8 (next_entry old.entries)) refl
by_request (High left) old before after ready less = inl (let all = ready.1 in omega arith)

pub in_time : (line : Bool) (old : Holds) (before after : ℕ) → IsReady old.request before → before ≤ after + 1 → (line ≡ false → 9 ≤ after)
    → IsInTime (looked line old).request after ⊎ Rose old.stalls (looked line old).stalls
in_time true old before after ready less low = by_request old.request old before after ready less
in_time false old before after ready less low = inl (low refl)
