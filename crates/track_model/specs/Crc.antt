-- The CRC of a field: the remainder of its bits when they are divided by x^16 + x^12 + x^5 + 1.
use Rattle.std.specs.Prelude.{ℕ, zero, suc, ◌+◌, ◌-◌, ◌^◌, ◌==◌, Bool, true, false, not, if◌then◌else◌, List, [], ◌∷◌, ◌++◌, length, drop, replicate}
use Rattle.std.specs.Int.{bit_at}
use Rattle.std.specs.List.{flat_map}

-- the lowest `count` bits of a number, highest first
unfoldable pub bits : ℕ → ℕ → List Bool
bits zero value = []
bits (suc count) value = (bit_at value count == 1) ∷ bits count value

-- the number that a row of bits writes, highest first
unfoldable pub number_in : List Bool → ℕ
number_in [] = 0
number_in (bit ∷ row) = (if bit then 2 ^ length row else 0) + number_in row

-- the bits of the bytes in order
unfoldable pub row_of : List ℕ → List Bool
row_of bytes = flat_map (bits 8) bytes

-- a row whose first bits are inverted where the pattern has a 1
unfoldable pub invert : List Bool → List Bool → List Bool
invert [] row = row
invert (flip ∷ pattern) [] = []
invert (flip ∷ pattern) (bit ∷ row) = (if flip then not bit else bit) ∷ invert pattern row

-- x^16 + x^12 + x^5 + 1: its bits 1, 5, 12 and 17 are ones
abbrev pub polynomial : List Bool
polynomial = bits 17 0x11021

-- one step of the division: if the first bit is 1, bits 1, 5, 12 and 17 are inverted; then the first bit is dropped
unfoldable pub reduced : List Bool → List Bool
reduced [] = []
reduced (false ∷ row) = row
reduced (true ∷ row) = drop 1 (invert polynomial (true ∷ row))

-- `count` steps of the division
unfoldable pub divided : ℕ → List Bool → List Bool
divided zero row = row
divided (suc count) row = divided count (reduced row)

-- the row is divided while more than sixteen bits are left; the remainder is the number in the last sixteen
unfoldable pub remainder : List Bool → ℕ
remainder row = number_in (divided (length row - 16) row)

-- the CRC of bytes: the first sixteen of their bits are inverted, sixteen zeros are appended, and the row is divided
unfoldable pub crc : List ℕ → ℕ
crc bytes = remainder (invert (replicate 16 true) (row_of bytes) ++ replicate 16 false)

-- the CRC with a preset in place of FFFF. If the preset is itself the CRC of some bytes, this is the CRC of those bytes
-- followed by these
unfoldable pub crc_from : ℕ → List ℕ → ℕ
crc_from preset bytes = remainder (invert (bits 16 preset) (row_of bytes ++ replicate 16 false))
