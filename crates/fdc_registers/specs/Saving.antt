-- The bytes in which a FIFO is saved.
use Rattle.std.specs.Prelude.{ℕ, List, length, ◌≤◌}
use Rattle.saved_state.specs.Saved.{spelled_byte, spelled_flag, spelled_bytes}
use Rattle.fdc_registers.specs.Fifo.{Fifo, room_of}

-- the FIFO holds no more bytes than there is room for, and its threshold is one of those that CONFIGURE sets
pub record IsFifo (fifo : Fifo) : Type 0 where
  pub room : length fifo.bytes ≤ room_of fifo.on
  pub at_least : 1 ≤ fifo.threshold
  pub at_most : fifo.threshold ≤ 16

-- whether the FIFO is on, its threshold, and its bytes, the oldest first
unfoldable pub spelled_fifo : Fifo → List ℕ → List ℕ
spelled_fifo fifo rest = spelled_flag fifo.on (spelled_byte fifo.threshold (spelled_bytes fifo.bytes rest))
