-- The channel once it is set up.
use Rattle.std.proofs.Common.{◌≡◌, ◌⊎◌, inl, inr, ℕ, ◌<◌, false, refl, sym, subst, arith}
use Rattle.dma_8237.specs.Channel.{Channel, after_write, grants, has_bit}
use Rattle.dma_8237.specs.SetUp.{set_up, IsSetUp}

to_memory : (address left : ℕ) (c : Channel) → has_bit c.command 2 ≡ false → address < 1048576 → left < 65536 → IsSetUp 0x46 address left (set_up 0x46 address left c)
unfolding after_write grants
to_memory address left c enabled inside few = record {
  granting = rw enabled refl;
  mode_is = refl;
  place = omega arith;
  address_is = omega arith;
  count = omega arith;
  enabled = enabled;
}

from_memory : (address left : ℕ) (c : Channel) → has_bit c.command 2 ≡ false → address < 1048576 → left < 65536 → IsSetUp 0x4A address left (set_up 0x4A address left c)
unfolding after_write grants
from_memory address left c enabled inside few = record {
  granting = rw enabled refl;
  mode_is = refl;
  place = omega arith;
  address_is = omega arith;
  count = omega arith;
  enabled = enabled;
}

pub is_set_up : (mode address left : ℕ) (c : Channel) → (mode ≡ 0x46) ⊎ (mode ≡ 0x4A) → has_bit c.command 2 ≡ false → address < 1048576 → left < 65536
    → IsSetUp mode address left (set_up mode address left c)
is_set_up mode address left c which enabled inside few = elim which [
  | inl is ↦ subst (λ m. IsSetUp m address left (set_up m address left c)) (sym is) (to_memory address left c enabled inside few)
  | inr is ↦ subst (λ m. IsSetUp m address left (set_up m address left c)) (sym is) (from_memory address left c enabled inside few)
]
