-- A run of transfers in closed form.
use Rattle.std.proofs.Common.{◌≡◌, ℕ, zero, suc, ◌+◌, ◌-◌, ◌%◌, ◌<◌, ◌≤◌, Bool, true, false, ◌||◌, ◌==◌, refl, ap, ◌∙◌, arith}
use Rattle.std.proofs.lemmas.Bool.Decides.{nat_tests}
use Rattle.dma_8237.specs.Channel.{Channel, after_transfer, after_transfers, moved_by, ran_out}

or_false : (b : Bool) → b || false ≡ b
or_false true = refl
or_false false = refl

or_true : (b : Bool) → b || true ≡ true
or_true true = refl
or_true false = refl

-- the registers that a transfer changes, put back into the others
abbrev with_moved : Channel → ℕ → ℕ → Bool → Bool → Channel
with_moved c address count terminal_count masked =
    record c { address = address; count = count; terminal_count = terminal_count; masked = masked }

same_moved : (c : Channel) (a a' n n' : ℕ) (t t' m m' : Bool) → a ≡ a' → n ≡ n' → t ≡ t' → m ≡ m' → with_moved c a n t m ≡ with_moved c a' n' t' m'
same_moved c a a' n n' t t' m m' p q r s = cc

not_zero : (n : ℕ) → 0 < n → (n == 0) ≡ false
not_zero n h = grind (arith, nat_tests)

moved_by-zero : (c : Channel) → c.address < 65536 → c ≡ moved_by 0 c
moved_by-zero c small =
    same_moved c c.address ((c.address + 0) % 65536) c.count (c.count - 0) c.terminal_count c.terminal_count c.masked c.masked (omega arith) (omega arith) refl refl

moved_by-suc : (c : Channel) (k : ℕ) → k < c.count → after_transfer (moved_by k c) ≡ moved_by (suc k) c
moved_by-suc c k below =
    let left = not_zero (c.count - k) (omega arith) in
    rw left (same_moved c (((c.address + k) % 65536 + 1) % 65536) ((c.address + suc k) % 65536) (c.count - k - 1) (c.count - suc k) (c.terminal_count || false) c.terminal_count (c.masked || false) c.masked (omega arith) (omega arith) (or_false c.terminal_count) (or_false c.masked))

pub after_transfers_on_the_way : (c : Channel) (k : ℕ) → c.address < 65536 → k ≤ c.count → after_transfers k c ≡ moved_by k c
after_transfers_on_the_way c zero small below = moved_by-zero c small
after_transfers_on_the_way c (suc k) small below =
    ap after_transfer (after_transfers_on_the_way c k small (omega arith)) ∙ moved_by-suc c k (omega arith)

last_transfer : (c : Channel) → after_transfer (moved_by c.count c) ≡ ran_out c
last_transfer c =
    let none : c.count - c.count ≡ 0 = omega arith in
    rw none (same_moved c (((c.address + c.count) % 65536 + 1) % 65536) ((c.address + c.count + 1) % 65536) 65535 65535 (c.terminal_count || true) true (c.masked || true) true (omega arith) refl (or_true c.terminal_count) (or_true c.masked))

pub after_transfers_at_the_end : (c : Channel) → c.address < 65536 → after_transfers (suc c.count) c ≡ ran_out c
after_transfers_at_the_end c small =
    ap after_transfer (after_transfers_on_the_way c c.count small (omega arith)) ∙ last_transfer c
