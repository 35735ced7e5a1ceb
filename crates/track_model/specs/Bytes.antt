-- Bytes as cells (MFM): each bit is a clock cell and then a data cell.
use Rattle.std.specs.Prelude.{ℕ, ◌+◌, ◌-◌, ◌*◌, ◌/◌, ◌%◌, ◌==◌, Bool, if◌then◌else◌, List, map, length, slice_index}
use Rattle.std.specs.List.{range_with_len}
use Rattle.std.specs.Int.{bit_at}
use Rattle.track_model.specs.Cells.{cell, number}

-- the byte whose sixteen cells begin at p: every second cell, the clock cells left out
abbrev pub byte_at : List ℕ → ℕ → ℕ
byte_at track p = number (λ i. cell track (p + (2 * i + 1))) 8

-- the `count` bytes one after the other from cell p on
abbrev pub bytes_at : List ℕ → ℕ → ℕ → List ℕ
bytes_at track p count = map (λ i. byte_at track (p + 16 * i)) (range_with_len 0 count)

-- bit i of a row of bytes, the highest bit of the first byte first
abbrev pub bit_of : List ℕ → ℕ → ℕ
bit_of bytes i = bit_at (slice_index bytes (i / 8)) (7 - i % 8)

-- the bit before bit i, which is `last` before the first
abbrev pub bit_before : Bool → List ℕ → ℕ → ℕ
bit_before last bytes i = if i == 0 then (if last then 1 else 0) else bit_of bytes (i - 1)

-- the last bit of a byte
abbrev pub last_bit : ℕ → Bool
last_bit byte = byte % 2 == 1

-- a clock cell is 1 exactly where the bit before it and the bit after it are both 0
abbrev pub clock_between : ℕ → ℕ → ℕ
clock_between before bit = 1 - (before + bit)

-- cell c of the bytes as they are recorded after a bit `last`: a clock cell, then the bit itself
abbrev pub legal_cell : Bool → List ℕ → ℕ → ℕ
legal_cell last bytes c =
    if c % 2 == 0 then clock_between (bit_before last bytes (c / 2)) (bit_of bytes (c / 2)) else bit_of bytes (c / 2)

-- the words that record the bytes after a bit `last`, one word a byte
unfoldable pub legal : Bool → List ℕ → List ℕ
legal last bytes = map (λ k. number (λ i. legal_cell last bytes (16 * k + i)) 16) (range_with_len 0 (length bytes))
