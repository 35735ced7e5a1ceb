-- the bits of status register 0
use Rattle.std.specs.Prelude.{ℕ, List, [], ◌∷◌, codes}

-- interrupt code 11: the ready line of a polled drive changed
abbrev pub polling : ℕ
polling = 0xC0

-- interrupt code 10: an invalid command
abbrev pub invalid : ℕ
invalid = 0x80

-- interrupt code 01: the command failed
abbrev pub abnormal : ℕ
abnormal = 0x40

-- a seek or recalibration ended
abbrev pub seek_end : ℕ
seek_end = 0x20

-- a recalibration did not reach track 0
abbrev pub equipment_check : ℕ
equipment_check = 0x10

-- the head
abbrev pub head : ℕ
head = 0x04

-- the high bit of the drive
abbrev pub drive_1 : ℕ
drive_1 = 0x02

-- the low bit of the drive
abbrev pub drive_0 : ℕ
drive_0 = 0x01

-- each flag's name and its bits
abbrev pub named_bits : List (List ℕ × ℕ)
named_bits =
    (codes "POLLING", polling)
    ∷ (codes "INVALID", invalid)
    ∷ (codes "ABNORMAL", abnormal)
    ∷ (codes "SEEK_END", seek_end)
    ∷ (codes "EQUIPMENT_CHECK", equipment_check)
    ∷ (codes "HEAD", head)
    ∷ (codes "DRIVE_1", drive_1)
    ∷ (codes "DRIVE_0", drive_0)
    ∷ []
