-- Data commands that fail.
use Rattle.std.specs.Prelude.{◌≡◌, ℕ}
use Rattle.test_driver.specs.Common.{RoseBy, Code, Overrun, IsFaultless, IsUndisturbed, FaultsRoseBy, Rig, SendsRead}

-- a data command changed no memory, and nothing else except counters
pub record Fails (old new : Rig) : Type 0 where
  pub sends : SendsRead old new
  pub memory : new.memory ≡ old.memory
  pub page : new.page ≡ old.page

-- the data command failed by a fault of the drive
pub record HasFault (bay : ℕ) (old new : Rig) : Type 0 where
  pub fails : Fails old new
  pub fault : FaultsRoseBy 1 bay old.counters new.counters

-- the data command was disturbed, and is refused for that; without a fault of the drive, the refusal is OR
pub record IsDisturbed (IsCode : Code → Type 0) (bay : ℕ) (old : Rig) (code : Code) (new : Rig) : Type 0 where
  pub fails : Fails old new
  pub coded : IsCode code
  pub disturbed : IsUndisturbed bay old.counters new.counters → ⊥
  pub faultless : IsFaultless bay old.counters new.counters → code ≡ Overrun
  pub overrun : code ≡ Overrun → RoseBy 1 old.counters.stalls new.counters.stalls
