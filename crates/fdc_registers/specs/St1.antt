-- the bits of status register 1
use Rattle.std.specs.Prelude.{ℕ, List, [], ◌∷◌, codes}

-- the last sector ended without terminal count
abbrev pub end_of_cylinder : ℕ
end_of_cylinder = 0x80

-- a field's CRC does not match
abbrev pub data_error : ℕ
data_error = 0x20

-- DMA came too late
abbrev pub overrun : ℕ
overrun = 0x10

-- no sector has the sector ID
abbrev pub no_data : ℕ
no_data = 0x04

-- the medium is protected
abbrev pub not_writable : ℕ
not_writable = 0x02

-- an address mark or data mark was not seen
abbrev pub missing_mark : ℕ
missing_mark = 0x01

-- each flag's name and its bits
abbrev pub named_bits : List (List ℕ × ℕ)
named_bits =
    (codes "END_OF_CYLINDER", end_of_cylinder)
    ∷ (codes "DATA_ERROR", data_error)
    ∷ (codes "OVERRUN", overrun)
    ∷ (codes "NO_DATA", no_data)
    ∷ (codes "NOT_WRITABLE", not_writable)
    ∷ (codes "MISSING_MARK", missing_mark)
    ∷ []
