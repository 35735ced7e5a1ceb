-- The FIFO as a list of bytes, and when it asks for DMA.
use Rattle.std.specs.Prelude.{◌≡◌, ℕ, ◌-◌, max, Bool, not, ◌&&◌, ◌||◌, ◌==◌, nat_le, if◌then◌else◌, List, [], length}

-- the bytes, the oldest first; whether the FIFO is on; the threshold, from 1 to 16
pub record Fifo : Type 0 where
  pub bytes : List ℕ
  pub on : Bool
  pub threshold : ℕ

-- a FIFO with no bytes, in this mode and with this threshold
abbrev pub emptied : Bool → ℕ → Fifo
emptied on threshold = record { bytes = []; on = on; threshold = threshold }

-- how many bytes there is room for: 16 while the FIFO is on, 1 while it is off
abbrev pub room_of : Bool → ℕ
room_of on = if on then 16 else 1

-- the FIFO holds as many bytes as there is room for
abbrev pub IsFull : Fifo → Type 0
IsFull f = length f.bytes ≡ room_of f.on

-- ---- bytes that go to memory

-- the number of bytes that makes DRQ rise. It is 16 less the threshold, but at least 1; while the FIFO is off it is 1
abbrev pub worth_fetching : Fifo → ℕ
worth_fetching f = if f.on then max 1 (16 - f.threshold) else 1

-- DRQ rises once the FIFO has this number of bytes, or has any byte after the field has ended. Then DRQ stays up until
-- no byte is left
abbrev pub wants_fetching : Bool → Bool → Fifo → Bool
wants_fetching asking ended f =
    not (length f.bytes == 0) && (asking || ended || nat_le (worth_fetching f) (length f.bytes))

-- ---- bytes that come from memory

-- the most bytes with which DRQ rises. It is the threshold; while the FIFO is off it is 0
abbrev pub low_level : Fifo → ℕ
low_level f = if f.on then f.threshold else 0

-- DRQ rises once the FIFO has no more bytes than this. Then DRQ stays up until the FIFO is full or TC comes
abbrev pub wants_filling : Bool → Bool → Fifo → Bool
wants_filling asking tc f =
    not (tc || length f.bytes == room_of f.on) && (asking || nat_le (length f.bytes) (low_level f))

-- whether DRQ is up now, if it was `asking` before. For bytes to memory, `last` says that the field has ended. For
-- bytes from memory, `last` says that TC came
abbrev pub wants : Bool → Bool → Bool → Fifo → Bool
wants to_memory asking last f =
    if to_memory then wants_fetching asking last f else wants_filling asking last f
