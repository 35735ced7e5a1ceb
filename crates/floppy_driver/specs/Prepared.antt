-- How an attempt is prepared.
use Rattle.std.specs.Prelude.{◌≡◌, ℕ, Bool, true, false, Some, None}
use Rattle.floppy_driver.specs.Common.{in_bay, FaultsRoseBy, FaultsRoseLess}
use Rattle.floppy_driver.specs.declared.retry_plan.Prepare.{Prepare}
use Rattle.floppy_driver.specs.declared.retry_plan.Prepare.TheVariants as prepare
use Rattle.floppy_driver.specs.Rigs.{Rig}
use Rattle.floppy_driver.specs.Heads.{MovesHeads}
use Rattle.floppy_driver.specs.declared.driver.Notes.{Notes}

-- the heads step outward to track 0, and once more if the first time doesn't reach it
pub record GoesToTrack0 (bay : ℕ) (old : Rig) (reached : Bool) (new : Rig) : Type 0 where
  pub moves : MovesHeads bay old new
  pub number : in_bay new.numbers bay ≡ 0
  pub arrives : reached ≡ true → in_bay new.cylinders bay ≡ 0
  -- two recalibrations are 158 pulses, and the heads were at most 82 cylinders in: at least 77 pulses were lost
  pub lost : reached ≡ false → FaultsRoseBy 77 bay old.counters new.counters

-- the heads of a drive were prepared for a cylinder
pub record IsPrepared (bay target : ℕ) (way : Prepare) (old : Rig) (notes : Notes) (ready : Bool) (new : Rig) (after : Notes) : Type 0 where
  pub moves : MovesHeads bay old new
  -- of the notes, only the known cylinder changed
  pub notes_are : after ≡ record notes { known = after.known }
  -- if ready, the controller's number is the target. The heads stand there too if no fault came. If they went by steps
  -- alone, they must also have stood at the controller's number before
  pub known : ready ≡ true → after.known ≡ Some target
  pub number : ready ≡ true → in_bay new.numbers bay ≡ target
  pub surely : ready ≡ true → way ≡ prepare.RecalibrateAndSeek → FaultsRoseLess 1 bay old.counters new.counters
      → in_bay new.cylinders bay ≡ target
  pub stepped : ready ≡ true → in_bay old.cylinders bay ≡ in_bay old.numbers bay
      → FaultsRoseLess 1 bay old.counters new.counters → in_bay new.cylinders bay ≡ target
  -- if not ready, track 0 wasn't reached in two recalibrations
  pub unknown : ready ≡ false → after.known ≡ None
  pub lost : ready ≡ false → FaultsRoseBy 77 bay old.counters new.counters
