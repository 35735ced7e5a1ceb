-- Commands that move the heads of a drive.
use Rattle.std.specs.Prelude.{◌≡◌, ◌≢◌, ℕ, ◌+◌, ◌-◌, ◌≤◌, Bool, true, false, IsSome, None, ◌⊎◌}
use Rattle.floppy_driver.specs.Common.{in_bay, with_bay, FaultsRoseBy, FaultsRoseLess, GoesOn, IsDriven}
use Rattle.floppy_driver.specs.Rigs.{Rig, StaysSpun}

-- the heads of one drive were moved, or not. Nothing else changed but its change line, which a pulse clears if a medium
-- is in
pub record MovesHeads (bay : ℕ) (old new : Rig) : Type 0 where
  pub media : new.media ≡ old.media
  pub memory : new.memory ≡ old.memory
  pub page : new.page ≡ old.page
  pub spun : StaysSpun old.spun new.spun
  pub other_cylinder : in_bay new.cylinders (1 - bay) ≡ in_bay old.cylinders (1 - bay)
  pub other_number : in_bay new.numbers (1 - bay) ≡ in_bay old.numbers (1 - bay)
  pub changes : (new.changes ≡ old.changes) ⊎ (new.changes ≡ with_bay old.changes bay false)
  pub empty : in_bay old.media bay ≡ None → new.changes ≡ old.changes
  pub counts : GoesOn old.counters new.counters
  pub driven : IsDriven 0 old.counters new.counters

-- RECALIBRATE: at most 79 pulses outward, and the answer says whether track 0 was reached
pub record Recalibrates (bay : ℕ) (old : Rig) (reached : Bool) (new : Rig) : Type 0 where
  pub moves : MovesHeads bay old new
  pub number : in_bay new.numbers bay ≡ 0
  pub arrives : reached ≡ true → in_bay new.cylinders bay ≡ 0
  pub away : reached ≡ false → 1 ≤ in_bay new.cylinders bay
  -- each of the 79 pulses that didn't move the heads outward was lost
  pub lost : reached ≡ false
      → FaultsRoseBy (in_bay new.cylinders bay + 79 - in_bay old.cylinders bay) bay old.counters new.counters

-- SEEK: one pulse for each cylinder between the controller's number and the target
pub record Seeks (bay target : ℕ) (old new : Rig) : Type 0 where
  pub moves : MovesHeads bay old new
  pub number : in_bay new.numbers bay ≡ target
  pub arrives : in_bay old.cylinders bay ≡ in_bay old.numbers bay → FaultsRoseLess 1 bay old.counters new.counters
      → in_bay new.cylinders bay ≡ target
  pub clears : IsSome (in_bay old.media bay) → in_bay old.numbers bay ≢ target
      → (in_bay new.changes bay ≡ false) ⊎ FaultsRoseBy 1 bay old.counters new.counters
