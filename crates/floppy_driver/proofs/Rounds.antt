-- Words of the proofs: the rounds of an acknowledgement so far.
use Rattle.std.proofs.Common.{◌≡◌, ℕ, ◌*◌, true, IsSome}
use Rattle.floppy_driver.proofs.Common.{in_bay, FaultsRoseBy, IsDriven, Rig, Works, OnlyReads, IsSpoilt}

-- the change line stayed set in `count` rounds of steps: if a medium is in and at speed, a pulse of each round was lost
pub record HasStayedSet (bay count : ℕ) (old new : Rig) : Type 0 where
  pub works : Works bay old new
  pub driven : IsDriven 0 old.counters new.counters
  pub spun : IsSome (in_bay old.media bay) → in_bay new.spun bay ≡ true
  pub lost : IsSome (in_bay old.media bay) → FaultsRoseBy count bay old.counters new.counters

-- no address field was found in `count` rounds, each at both rates
pub record HasFoundNone (bay count : ℕ) (old new : Rig) : Type 0 where
  pub reads : OnlyReads (2 * count) old new
  pub spoilt : IsSpoilt bay count old new
