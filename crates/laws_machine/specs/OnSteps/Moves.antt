-- Whatever is done with a machine: device steps, port accesses, waits, takes of the latch, and calls past the
-- controller.
use Rattle.std.specs.Prelude.{ℕ, zero, suc, Bool, false, List}
use Rattle.laws_machine.specs.Common.{Board, Touches, byte_set, irq_taken, port_read, WritesPort, Step}
use Rattle.laws_machine.specs.OnSteps.Steady.{regapped}

-- a port was read, and its gap is still to come
abbrev pub read_from : ℕ → Board → Board
read_from port old = record old { bus = record old.bus { chips = port_read port old.bus.chips; fresh = false } }

-- what is done in no device step
pub data Acts (old : Board) : Board → Type 0 where
  Idles : (gaps : List ℕ) (fresh : Bool) → Acts old (regapped gaps fresh old)
  Reads : (port : ℕ) → Acts old (read_from port old)
  Writes : (port value : ℕ) (new : Board) → WritesPort port value old new → Acts old new
  Takes : Acts old (record old { bus = irq_taken old.bus })
  Sets : (address value : ℕ) → Acts old (record old { bus = byte_set address value old.bus })
  Handles : (bay : ℕ) (new : Board) → Touches bay old new → Acts old new

-- a course: a number of device steps, and whatever was done between them
pub data Goes (old : Board) : ℕ → Board → Type 0 where
  Stays : Goes old zero old
  Does : (n : ℕ) (between new : Board) → Goes old n between → Acts between new → Goes old n new
  Steps : (n : ℕ) (between new : Board) → Goes old n between → Step between new → Goes old (suc n) new

-- a property of the board after `n` device steps; each device step and each act carries the property on
pub record Lasting (P : ℕ → Board → Type 0) : Type 0 where
  pub step : (n : ℕ) (old new : Board) → Step old new → P n old → P (suc n) new
  pub act : (n : ℕ) (old new : Board) → Acts old new → P n old → P n new
