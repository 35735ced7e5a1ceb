-- What never disturbs a desk.
use Rattle.std.specs.Prelude.{◌≡◌, ℕ, ◌+◌, true}
use Rattle.flop_base.specs.Counters.{Counters, IsUndisturbed}
use Rattle.sector_model.specs.Orders.{is_acknowledged}
use Rattle.sector_model.specs.Stations.{StationState, IsSteady}

-- the DMA requests that waited too long, and those that may still do so
abbrev pub stalls_due : Counters → ℕ
stalls_due counters = counters.stalls + counters.stalls_left

-- neither a fault nor a stall disturbed a call, and the heads of an acknowledged bay stood where the driver takes them
-- to stand
pub record IsCalm (bay : ℕ) (old new : StationState) : Type 0 where
  pub undisturbed : IsUndisturbed bay old.counters new.counters
  pub steady : is_acknowledged old bay ≡ true → IsSteady bay old new
