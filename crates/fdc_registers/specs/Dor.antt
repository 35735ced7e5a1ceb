-- the bits of the digital output register
use Rattle.std.specs.Prelude.{ℕ, List, [], ◌∷◌, codes}

-- the motor of drive 3 is on
abbrev pub motor_3 : ℕ
motor_3 = 0x80

-- the motor of drive 2 is on
abbrev pub motor_2 : ℕ
motor_2 = 0x40

-- the motor of drive 1 is on
abbrev pub motor_1 : ℕ
motor_1 = 0x20

-- the motor of drive 0 is on
abbrev pub motor_0 : ℕ
motor_0 = 0x10

-- INT and DRQ reach the bus
abbrev pub gate : ℕ
gate = 0x08

-- zero holds the controller in reset
abbrev pub not_reset : ℕ
not_reset = 0x04

-- the high bit of the selected drive
abbrev pub drive_1 : ℕ
drive_1 = 0x02

-- the low bit of the selected drive
abbrev pub drive_0 : ℕ
drive_0 = 0x01

-- each flag's name and its bits
abbrev pub named_bits : List (List ℕ × ℕ)
named_bits =
    (codes "MOTOR_3", motor_3)
    ∷ (codes "MOTOR_2", motor_2)
    ∷ (codes "MOTOR_1", motor_1)
    ∷ (codes "MOTOR_0", motor_0)
    ∷ (codes "GATE", gate)
    ∷ (codes "NOT_RESET", not_reset)
    ∷ (codes "DRIVE_1", drive_1)
    ∷ (codes "DRIVE_0", drive_0)
    ∷ []
