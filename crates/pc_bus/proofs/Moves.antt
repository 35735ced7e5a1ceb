-- Runs of transfers, one byte after the other.
use Rattle.std.proofs.Common.{◌≡◌, ℕ, zero, suc, ◌+◌, ◌-◌, ◌<◌, ◌≤◌, true, false, refl, sym, ◌∙◌, arith}
use Rattle.pc_bus.specs.Transfers.{can_move, moved, moved_up_to}
use Rattle.pc_bus.specs.declared.chips.Chips.{Chips}

pub moved_none : (most : ℕ) (chips : Chips) → can_move chips ≡ false → moved_up_to most chips ≡ chips
unfolding moved_up_to
moved_none zero chips idle = refl
moved_none (suc most) chips idle = rw idle refl

pub moved_zero : (chips : Chips) → moved_up_to 0 chips ≡ chips
unfolding moved_up_to
moved_zero chips = refl

pub moved_one : (most : ℕ) (chips : Chips) → can_move chips ≡ true → moved_up_to (suc most) chips ≡ moved_up_to most (moved chips)
unfolding moved_up_to
moved_one most chips busy = rw busy refl

-- a byte is moved, and one byte fewer may follow
pub moved_on : (i : ℕ) (chips after whole : Chips) → i < 16 → can_move chips ≡ true → after ≡ moved chips
    → moved_up_to (16 - i) chips ≡ whole → moved_up_to (16 - (i + 1)) after ≡ whole
moved_on i chips after whole more busy is all =
    let split : 16 - i ≡ suc (16 - (i + 1)) = omega arith in
    rw is (sym (moved_one (16 - (i + 1)) chips busy) ∙ rw split at all)

-- no byte can be moved
pub moved_out : (i : ℕ) (chips whole : Chips) → can_move chips ≡ false → moved_up_to (16 - i) chips ≡ whole → chips ≡ whole
moved_out i chips whole idle all = sym (moved_none (16 - i) chips idle) ∙ all

-- as many bytes as a FIFO holds were moved
pub moved_all : (i : ℕ) (chips whole : Chips) → 16 ≤ i → moved_up_to (16 - i) chips ≡ whole → chips ≡ whole
moved_all i chips whole over all =
    let none : 16 - i ≡ 0 = omega arith in
    sym (moved_zero chips) ∙ rw none at all
