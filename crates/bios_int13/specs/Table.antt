-- The table of functions: the work of each call, and the registers after it.
use Rattle.std.specs.Prelude.{◌≡◌, ℕ, ◌+◌, ◌-◌, ◌*◌, ◌/◌, ◌≤◌, ◌==◌, ◌&&◌, Bool, true, false, not, nat_le, if◌then◌else◌}
use Rattle.flop_base.specs.Memory.{user_bytes}
use Rattle.bios_int13.specs.Registers.{ah, al, dh, dl, cylinder_of, record_of, address_of, names_drive, is_transfer, gives_parameters}
use Rattle.bios_int13.specs.declared.regs.Regs.{Regs}
use Rattle.bios_int13.specs.declared.work.Kind.{Kind}
use Rattle.bios_int13.specs.declared.work.Kind.TheVariants.{Read, Write, Verify}
use Rattle.bios_int13.specs.declared.work.Work.{Work}
use Rattle.bios_int13.specs.declared.work.Work.TheVariants.{Answer, Changed, Move}

-- a drive can have these records, and their numbers fit in a byte
abbrev pub names_records : Regs → Bool
names_records regs =
    names_drive regs && nat_le 1 (al regs) && nat_le 1 (record_of regs) && nat_le (record_of regs + al regs - 1) 255
    && nat_le (cylinder_of regs) 79 && nat_le (dh regs) 1

-- the bytes of the records are in user memory; a verify uses none there
abbrev pub is_in_memory : Kind → Regs → Bool
is_in_memory Verify regs = true
is_in_memory _ regs = nat_le (address_of regs + 512 * al regs) user_bytes

-- the first and the last byte of the records are in different pages of 65,536 bytes
abbrev pub crosses_page : Kind → Regs → Bool
crosses_page Verify regs = false
crosses_page _ regs = not (address_of regs / 65536 == (address_of regs + 512 * al regs - 1) / 65536)

-- a verify reads each record to 00000
abbrev pub transfer_address : Kind → Regs → ℕ
transfer_address Verify regs = 0
transfer_address _ regs = address_of regs

-- The work for a transfer of records. It is refused with 01 if the records can't be asked for, and with 09 if they
-- cross a page of the DMA channel.
abbrev pub transfer_of : Kind → Regs → Work
transfer_of kind regs =
    if not (names_records regs && is_in_memory kind regs) then Answer 0x01
    else (if crosses_page kind regs then Answer 0x09
    else Move kind (dl regs) (cylinder_of regs) (dh regs) (record_of regs) (al regs) (transfer_address kind regs))

-- the work of a call, by AH; `status` is the status that the service kept
unfoldable pub work_of : ℕ → Regs → Work
work_of status regs =
    if ah regs == 0x00 then Answer 0x00
    else (if ah regs == 0x01 then Answer status
    else (if ah regs == 0x02 then transfer_of Read regs
    else (if ah regs == 0x03 then transfer_of Write regs
    else (if ah regs == 0x04 then transfer_of Verify regs
    else (if ah regs == 0x08 then Answer (if names_drive regs then 0x00 else 0x01)
    else (if ah regs == 0x15 then Answer 0x00
    else (if ah regs == 0x16 then (if names_drive regs then Changed (dl regs) else Answer 0x01)
    else Answer 0x01)))))))

-- the bytes of memory that a transfer needs
abbrev pub needed_bytes : Kind → ℕ → ℕ
needed_bytes Verify count = 512
needed_bytes _ count = 512 * count

-- a transfer that the driver can be asked for, record by record
pub record IsTransfer (kind : Kind) (bay c h r count address : ℕ) : Type 0 where
  pub drive : bay ≤ 1
  pub cylinder : c ≤ 79
  pub head : h ≤ 1
  pub first : 1 ≤ r
  pub some : 1 ≤ count
  pub last : r + count ≤ 256
  pub within : address + needed_bytes kind count ≤ user_bytes
  pub one_page : address / 65536 ≡ (address + needed_bytes kind count - 1) / 65536

-- work that can be done
abbrev pub IsDoable : Work → Type 0
IsDoable (Answer code) = Unit {0}
IsDoable (Changed bay) = bay ≤ 1
IsDoable (Move kind bay c h r count address) = IsTransfer kind bay c h r count address

-- a call whose answer was planned has this answer, and moved no record
abbrev pub IsAnswerTo : Work → ℕ → ℕ → Type 0
IsAnswerTo (Answer planned) code moved = (code ≡ planned) × (moved ≡ 0)
IsAnswerTo _ code moved = Unit {0}

-- the drive type: drives 0 and 1 have a change line, and others don't exist
abbrev pub drive_type_of : Regs → ℕ
drive_type_of regs = if names_drive regs then 0x02 else 0x00

-- AH after a call with this code
abbrev pub ah_after : Regs → ℕ → ℕ
ah_after regs code = if ah regs == 0x15 then drive_type_of regs else code

-- AL after a call that moved this many records
abbrev pub al_after : Regs → ℕ → ℕ
al_after regs moved = if is_transfer regs then moved else (if gives_parameters regs then 0 else al regs)

-- the carry flag after a call with this code
abbrev pub carry_after : Regs → ℕ → Bool
carry_after regs code = not (ah regs == 0x15) && not (code == 0)
