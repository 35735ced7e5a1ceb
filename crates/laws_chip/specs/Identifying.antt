-- READ ID over a medium that stays in.
use Rattle.std.specs.Prelude.{◌≡◌, ℕ, Bool, true, ◌==◌, List, [], ◌∷◌, bit_and}
use Rattle.laws_chip.specs.Common.{DriveState, drive_at, GivesCommand, ChipState, Begins, identifying, Order, ChipStage, Sent}
use Rattle.laws_chip.specs.Media.{IsAt, Place, TurnsOn}
use Rattle.laws_chip.specs.Beginning.{IsFreeBehind}
use Rattle.laws_chip.specs.Calls as call
use Rattle.laws_chip.specs.Calls.{Call}
use Rattle.laws_chip.specs.Lasting.{AreAt}

-- a READ ID
abbrev pub is_read_id : Order → Bool
is_read_id order = bit_and order.code 0x1F == 0x0A

-- the inner controller, which was free, executes a READ ID of this head and drive
pub record IsIdBegun (unit : ℕ) (new : ChipState) : Type 0 where
  pub order : is_read_id new.order ≡ true
  pub set : ChipState
  pub free : IsFreeBehind set.front
  pub begins : Begins Sent (GivesCommand (identifying unit)) set new

-- the same medium turns on where another one is put in or taken out
abbrev pub TurnsOnBy : Call → DriveState → DriveState → Type 0
TurnsOnBy call.Changes old new = TurnsOn old new
TurnsOnBy _ old new = Unit {0}

-- a medium is in before and after each of these calls
abbrev pub StaysUnder : Place → (stage : ChipStage) (calls : List Call) (old new : ChipState) → AreAt stage calls old new → Type 0
StaysUnder place stage [] old new same = IsAt place old.front
StaysUnder place stage (made ∷ calls) old new at =
    IsAt place old.front × TurnsOnBy made (drive_at old.front.adapter place.bay) (drive_at at.0.front.adapter place.bay)
    × StaysUnder place stage calls at.0 new at.4
