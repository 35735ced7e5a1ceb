-- Cells: a track is a list of words of sixteen cells, from the index on. Cell 0 is the highest bit of the first word.
use Rattle.std.specs.Prelude.{ℕ, zero, suc, ◌+◌, ◌-◌, ◌*◌, ◌/◌, ◌%◌, ◌≤◌, List, length, slice_index}
use Rattle.std.specs.Int.{bit_at}

-- a track has from 64 to 16,384 words
abbrev pub IsTrackSized : List ℕ → Type 0
IsTrackSized track = (64 ≤ length track) × (length track ≤ 16384)

-- the number with these binary digits, the highest first
unfoldable pub number : (ℕ → ℕ) → ℕ → ℕ
number digit zero = 0
number digit (suc count) = 2 * number digit count + digit count

-- cell p: 1 where a flux change was recorded, and 0 past the end of the track
abbrev pub cell : List ℕ → ℕ → ℕ
cell track p = bit_at (slice_index track (p / 16)) (15 - p % 16)

-- the sixteen cells from p on, as a number
abbrev pub cells_at : List ℕ → ℕ → ℕ
cells_at track p = number (λ i. cell track (p + i)) 16

-- the stretch of `count` cells from p on lies inside the track
abbrev pub IsInside : List ℕ → ℕ → ℕ → Type 0
IsInside track p count = p + count ≤ 16 * length track
