-- How the counts of a bench rise.
use Rattle.std.specs.Prelude.{◌≡◌, ℕ, ◌+◌, ◌≤◌}
use Rattle.test_driver.specs.Common.{last_count, RoseBy}
use Rattle.test_driver.specs.declared.counts.BenchCounts.{BenchCounts}

-- a count rises by one, unless it is at its last value
pub record RisesByOne (old new : ℕ) : Type 0 where
  pub rose : RoseBy 1 old new
  pub most : new ≤ old + 1
  pub never_falls : old ≤ new
  pub bound : new ≤ last_count

-- one more data command began, and its interrupt was taken
pub record HasSent (old new : BenchCounts) : Type 0 where
  pub commands : RisesByOne old.commands new.commands
  pub taken : RisesByOne old.taken new.taken
  pub stalls : new.stalls ≡ old.stalls

-- one more late DMA was counted
pub record HasStalled (old new : BenchCounts) : Type 0 where
  pub stalls : RisesByOne old.stalls new.stalls
  pub commands : new.commands ≡ old.commands
  pub taken : new.taken ≡ old.taken
