-- Device steps made at once, in which nothing but word times passes.
use Rattle.std.specs.Prelude.{◌≡◌, ℕ, ◌+◌, min, false}
use Rattle.pc_bus.specs.Common.{last_count, strays_later, Low, asks, interrupts}
use Rattle.pc_bus.specs.declared.bus.Bus.{Bus}

-- The bus is calm. The DMA request is low, and was low when it was last looked at. The latch has seen the interrupt
-- line as it is, and a call came. If no line changes in a word time then, and no spurious interrupt (stray) comes, the
-- rest of the device step changes only the counts of steps.
pub record IsCalm (bus : Bus) : Type 0 where
  pub asks_not : asks bus.chips.controller ≡ false
  pub was_low : bus.chips.holding.request ≡ Low
  pub seen : bus.latch.level ≡ interrupts bus.chips.controller
  pub stirred : bus.fresh ≡ false

-- this many device steps without a spurious interrupt are counted
abbrev pub skipped : ℕ → Bus → Bus
skipped count old = record old { strays = strays_later count old.strays; steps = min (old.steps + count) last_count }
