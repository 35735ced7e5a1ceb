-- the bits of status register 2
use Rattle.std.specs.Prelude.{ℕ, List, [], ◌∷◌, codes}

-- the data field has a deleted data mark
abbrev pub control_mark : ℕ
control_mark = 0x40

-- the data field's CRC does not match
abbrev pub data_field_error : ℕ
data_field_error = 0x20

-- another cylinder was found
abbrev pub wrong_cylinder : ℕ
wrong_cylinder = 0x10

-- a cylinder marked bad was found
abbrev pub bad_cylinder : ℕ
bad_cylinder = 0x02

-- no data mark was seen
abbrev pub missing_data_mark : ℕ
missing_data_mark = 0x01

-- each flag's name and its bits
abbrev pub named_bits : List (List ℕ × ℕ)
named_bits =
    (codes "CONTROL_MARK", control_mark)
    ∷ (codes "DATA_FIELD_ERROR", data_field_error)
    ∷ (codes "WRONG_CYLINDER", wrong_cylinder)
    ∷ (codes "BAD_CYLINDER", bad_cylinder)
    ∷ (codes "MISSING_DATA_MARK", missing_data_mark)
    ∷ []
