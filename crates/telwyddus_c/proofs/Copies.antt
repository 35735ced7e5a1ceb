-- Bytes are copied one by one.
use Rattle.std.proofs.Common.{◌≡◌, ℕ, zero, suc, ◌+◌, ◌-◌, ◌<◌, ◌≤◌, ◌==◌, min, List, Bool, false, nat_lt, if◌then◌else◌, length, refl, sym, ◌∙◌, ap, subst, inl, inr, ⊎_elim, arith, ne_eqb}
use Rattle.std.specs.Prelude.{slice_index, slice_set}
use Rattle.std.specs.Fn.{iterate}
use Rattle.telwyddus_c.proofs.Common.{cases_eq, cases_lt, cond_above, cond_below, cond-false, get_or-set_at, get_or-set_other, Board, memory_of, CountsBytes, IsStored, in_user_memory}
use Rattle.flop_base.specs.Memory.{user_bytes}
use Rattle.irq_events.specs.Holds.{counted}
use Rattle.pc_bus.specs.Handling.{byte_set}

less : (k : ℕ) {i : ℕ} → k < i + 1 → (k ≡ i → ⊥) → k < i
less k {i} below other = ⊎_elim (λ (low : k < i). low) (λ (high : i ≤ k). absurd (other (omega (arith, below, high)))) (cases_lt k i)

-- one more of a copy from an address on
pub copied_more : (xs : List ℕ) (memory : List ℕ) (address i v : ℕ) → i < length xs → v ≡ slice_index memory (address + i)
    → ((k : ℕ) → k < i → slice_index xs k ≡ slice_index memory (address + k)) → (k : ℕ) → k < i + 1
    → slice_index (slice_set xs i v) k ≡ slice_index memory (address + k)
copied_more xs memory address i v inside is all k below =
    ⊎_elim (λ same. get_or-set_at xs i k v 0 same inside ∙ is ∙ ap (λ n. slice_index memory (address + n)) (sym same))
    (λ other. get_or-set_other xs i k v 0 other ∙ all k (less k below other)) (cases_eq k i)

-- one more of what is stored
pub stored_more : (address i v : ℕ) (bytes old now : List ℕ) → address + i < length now → v ≡ slice_index bytes i → IsStored address i bytes old now
    → IsStored address (i + 1) bytes old (slice_set now (address + i) v)
stored_more address i v bytes old now inside is so_far = record {
  inside = λ k below. ⊎_elim (λ (same : k ≡ i). get_or-set_at now (address + i) (address + k) v 0 (omega (arith, same)) inside ∙ is ∙ ap (slice_index bytes) (sym same))
      (λ (other : k ≡ i → ⊥). get_or-set_other now (address + i) (address + k) v 0 (λ same. other (omega (arith, same)))
      ∙ so_far.inside k (less k below other)) (cases_eq k i);
  outside = λ k away. get_or-set_other now (address + i) k v 0 (λ same. ⊎_elim (λ (low : k < address). absurd (omega (arith, same, low)))
      (λ (high : address + (i + 1) ≤ k). absurd (omega (arith, same, high))) away)
      ∙ so_far.outside k (⊎_elim (λ (low : k < address). inl low) (λ (high : address + (i + 1) ≤ k). inr (omega (arith, high))) away);
}

-- one byte more inside user memory, and one beyond it
one_inside : (top address i : ℕ) → address + i < top → min (i + 1) (top - address) ≡ min i (top - address) + 1
one_inside top address i inside = omega (arith, inside)

one_beyond : (top address i : ℕ) → top ≤ address + i → min (i + 1) (top - address) ≡ min i (top - address)
one_beyond top address i beyond = omega (arith, beyond)

once_last : (f : ℕ → ℕ) (k m : ℕ) → iterate f (suc k) m ≡ f (iterate f k m)
once_last f zero m = refl
once_last f (suc k) m = once_last f k (f m)

once_more : (f : ℕ → ℕ) (k m : ℕ) → iterate f (k + 1) m ≡ f (iterate f k m)
once_more f k m = let more : suc k ≡ k + 1 = omega arith in subst (λ (n : ℕ). iterate f n m ≡ f (iterate f k m)) more (once_last f k m)

-- the byte is counted if it is in user memory
counted_more : (address i direct : ℕ) → iterate counted (in_user_memory address (i + 1)) direct
    ≡ (if nat_lt (address + i) user_bytes then counted (iterate counted (in_user_memory address i) direct) else iterate counted (in_user_memory address i) direct)
counted_more address i direct =
    ⊎_elim
    (λ (inside : address + i < user_bytes). ap (λ (n : ℕ). iterate counted n direct) (one_inside user_bytes address i inside)
    ∙ once_more counted (in_user_memory address i) direct
    ∙ cond_below (address + i) user_bytes (counted (iterate counted (in_user_memory address i) direct)) (iterate counted (in_user_memory address i) direct) inside)
    (λ (beyond : user_bytes ≤ address + i). cond_above (address + i) user_bytes (counted (iterate counted (in_user_memory address i) direct))
    (iterate counted (in_user_memory address i) direct) (iterate counted (in_user_memory address (i + 1)) direct) beyond
    (ap (λ (n : ℕ). iterate counted n direct) (one_beyond user_bytes address i beyond)))
    (cases_lt (address + i) user_bytes)

not_fresh : (i : ℕ) (fresh : Bool) → (if (i + 1) == 0 then fresh else false) ≡ false
not_fresh i fresh = cond-false ((i + 1) == 0) fresh false (ne_eqb (i + 1) 0 (λ none. omega (arith, none)))

-- a board with these parts in place of its own
abbrev with_memory : Board → (memory : List ℕ) → (direct : ℕ) → (fresh : Bool) → Board
with_memory old memory direct fresh =
    record old { bus = record old.bus { chips = record old.bus.chips { memory = memory }; direct = direct; fresh = fresh } }

none_in : (top address : ℕ) → min 0 (top - address) ≡ 0
none_in top address = omega arith

-- no byte was set
pub rest_none : (address : ℕ) (old : Board) → CountsBytes address 0 old old
rest_none address old =
    ap (λ (n : ℕ). with_memory old (memory_of old) (iterate counted n old.bus.direct) old.bus.fresh) (sym (none_in user_bytes address))

-- another byte is set in memory. It is counted if it is in user memory, and all else stays
pub rest_more : (address i value : ℕ) (old now : Board) → CountsBytes address i old now
    → CountsBytes address (i + 1) old (record now { bus = byte_set (address + i) value now.bus })
rest_more address i value old now rest =
    let memory = slice_set (memory_of now) (address + i) value in
    ap (λ (b : Board). record b { bus = byte_set (address + i) value b.bus }) rest
    ∙ ap (λ (direct : ℕ). with_memory old memory direct false) (sym (counted_more address i old.bus.direct))
    ∙ ap (λ (fresh : Bool). with_memory old memory (iterate counted (in_user_memory address (i + 1)) old.bus.direct) fresh) (sym (not_fresh i old.bus.fresh))
