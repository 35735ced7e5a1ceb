-- the bits of status register 3
use Rattle.std.specs.Prelude.{ℕ, List, [], ◌∷◌, codes}

-- the medium is protected
abbrev pub protected : ℕ
protected = 0x40

-- bits 5 and 3, which are always 1
abbrev pub always_one : ℕ
always_one = 0x28

-- the head is over track 0
abbrev pub track_0 : ℕ
track_0 = 0x10

-- the head
abbrev pub head : ℕ
head = 0x04

-- the high bit of the drive
abbrev pub drive_1 : ℕ
drive_1 = 0x02

-- the low bit of the drive
abbrev pub drive_0 : ℕ
drive_0 = 0x01

-- each flag's name and its bits
abbrev pub named_bits : List (List ℕ × ℕ)
named_bits =
    (codes "PROTECTED", protected)
    ∷ (codes "ALWAYS_ONE", always_one)
    ∷ (codes "TRACK_0", track_0)
    ∷ (codes "HEAD", head)
    ∷ (codes "DRIVE_1", drive_1)
    ∷ (codes "DRIVE_0", drive_0)
    ∷ []
