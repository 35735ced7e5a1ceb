-- Faults of the outside, by the count of who had them.
use Rattle.std.specs.Prelude.{ℕ, ◌≡◌, ◌≤◌}
use Rattle.sector_model.specs.Common.{RoseOnce}

-- a count of faults rose by one if an answer blames it, and stays if none does. At most one of many calls failed, and
-- the answer reports it
pub record Blames (blamed : Type 0) (old new : ℕ) : Type 0 where
  pub rose : blamed → RoseOnce old new
  pub else_stays : (blamed → ⊥) → new ≡ old
  pub never_falls : old ≤ new
