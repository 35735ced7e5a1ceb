-- What the registers of a call name.
use Rattle.std.specs.Prelude.{ℕ, ◌+◌, ◌*◌, ◌/◌, ◌%◌, ◌==◌, ◌||◌, ◌&&◌, Bool, nat_le}
use Rattle.bios_int13.specs.declared.regs.Regs.{Regs}

-- the function
abbrev pub ah : Regs → ℕ
ah regs = regs.ax / 256

-- the number of records
abbrev pub al : Regs → ℕ
al regs = regs.ax % 256

-- the head
abbrev pub dh : Regs → ℕ
dh regs = regs.dx / 256

-- the drive
abbrev pub dl : Regs → ℕ
dl regs = regs.dx % 256

abbrev pub ch : Regs → ℕ
ch regs = regs.cx / 256

abbrev pub cl : Regs → ℕ
cl regs = regs.cx % 256

-- the cylinder: CH, and above it bits 7 and 6 of CL
abbrev pub cylinder_of : Regs → ℕ
cylinder_of regs = ch regs + 256 * (cl regs / 64)

-- the first record: bits 5 to 0 of CL
abbrev pub record_of : Regs → ℕ
record_of regs = cl regs % 64

-- where the first record is in memory: ES:BX
abbrev pub address_of : Regs → ℕ
address_of regs = regs.es * 16 + regs.bx

-- DL names drive 0 or 1
abbrev pub names_drive : Regs → Bool
names_drive regs = nat_le (dl regs) 1

-- the call is one that reads, writes or verifies records
abbrev pub is_transfer : Regs → Bool
is_transfer regs = ah regs == 0x02 || ah regs == 0x03 || ah regs == 0x04

-- the call is one that answers the parameters of a drive
abbrev pub gives_parameters : Regs → Bool
gives_parameters regs = ah regs == 0x08 && names_drive regs
