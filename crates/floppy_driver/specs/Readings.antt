-- Attempts at a read.
use Rattle.std.specs.Prelude.{◌≡◌, ◌≢◌, ℕ, Bool, length, Result, Err, IfOk, IfErr}
use Rattle.floppy_driver.specs.Common.{RoseBy, Chrn, Code, Overrun, Seek, content_size, IsUndisturbed, FaultsRoseBy, GoesOn, IsDriven, SameOutside, StationState, Becomes, bay_of, met, IsDeviceRefusal}
use Rattle.floppy_driver.specs.Reading.{IsReadReason}
use Rattle.sector_model.specs.Reads.{IsRead}

-- a field of the key was read, and its content fills the range of memory
pub record IsReadWhole (bay : ℕ) (key : Chrn) (address : ℕ) (old : StationState) (deleted : Bool) (new : StationState) : Type 0 where
  pub read : IsRead bay key address old deleted new
  pub size : length read.content ≡ content_size key.n

-- an attempt failed. If it is sure to be on the track of the key's cylinder, and nothing disturbed, that track is the
-- reason
pub record IsReadFailed (sure : Type 0) (bay : ℕ) (key : Chrn) (old : StationState) (code : Code) (new : StationState) : Type 0 where
  pub device : IsDeviceRefusal code
  pub reason : sure → IsUndisturbed bay old.counters new.counters → IsReadReason (met (bay_of old bay) key.c key.h) key code
  pub overrun : code ≡ Overrun → RoseBy 1 old.counters.stalls new.counters.stalls
  pub lost : code ≡ Seek → FaultsRoseBy 77 bay old.counters new.counters
  pub sent : code ≢ Seek → RoseBy 1 old.counters.data_commands new.counters.data_commands

-- one attempt
pub record TriesRead (sure : Type 0) (bay : ℕ) (key : Chrn) (address : ℕ) (old : StationState) (answer : Result Bool Code) (new : StationState) : Type 0 where
  pub done : IfOk answer (λ deleted. IsReadWhole bay key address old deleted new)
  pub failed : IfErr answer (λ code. IsReadFailed sure bay key old code new)
  pub memory : SameOutside address (content_size key.n) old.memory new.memory
  pub becomes : Becomes (record old { memory = new.memory }) new
  pub counts : GoesOn old.counters new.counters
  pub driven : IsDriven 1 old.counters new.counters
  -- if the heads could not be placed, no data command was sent
  pub unsent : answer ≡ Err Seek → IsDriven 0 old.counters new.counters
