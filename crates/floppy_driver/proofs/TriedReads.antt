-- Words of the proofs: a read in attempts so far.
use Rattle.std.proofs.Common.{◌≡◌, ℕ, ◌+◌, ◌-◌, ◌≤◌}
use Rattle.floppy_driver.proofs.Common.{Chrn, Code, Seek, content_size, DisturbedLess, GoesOn, IsDriven, SameOutside, HasClearAddress, AllFound, StationState, Becomes, bay_of, met, IsSure, IsReadFailed}
use Rattle.floppy_driver.proofs.SureAttempts.{sure_attempts}

-- `count` attempts failed since the start of the call, the last one with this code
pub record HasTriedRead (bay : ℕ) (key : Chrn) (address count : ℕ) (start : StationState) (code : Code) (now : StationState) : Type 0 where
  pub memory : SameOutside address (content_size key.n) start.memory now.memory
  pub becomes : Becomes (record start { memory = now.memory }) now
  pub counts : GoesOn start.counters now.counters
  pub driven : IsDriven count start.counters now.counters
  -- on a good track each attempt that goes by track 0 was disturbed
  pub spoilt : HasClearAddress (met (bay_of start bay) key.c key.h) key → AllFound (met (bay_of start bay) key.c key.h) key
      → DisturbedLess (sure_attempts start.tries count) bay start.counters now.counters → ⊥
  pub unsent : 1 ≤ count → code ≡ Seek → now.counters.data_commands ≤ start.counters.data_commands + (count - 1)
  pub last : 1 ≤ count → IsReadFailed (IsSure start.tries count) bay key start code now
