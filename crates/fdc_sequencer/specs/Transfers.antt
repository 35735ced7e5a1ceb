-- A command of several sectors, as it stands at one of them.
use Rattle.std.specs.Prelude.{ℕ, ◌+◌, ◌%◌, Bool, true, false, not, ◌==◌, ◌&&◌, ◌||◌, if◌then◌else◌, bit_and}
use Rattle.std.specs.Int.Bits.{bit_xor}
use Rattle.fdc_sequencer.specs.Common.{bit_or, Chrn, Command, ReadData, WriteData, WriteDeleted, Results, Ending}
use Rattle.fdc_registers.specs.St0.{seek_end}
use Rattle.fdc_registers.specs.St2.{control_mark}
use Rattle.fdc_phases.specs.Answers.{results_of}
use Rattle.fdc_sequencer.specs.declared.opcode.Opcode.{Opcode}
use Rattle.fdc_sequencer.specs.declared.opcode.Operation.{Operation}
use Rattle.fdc_sequencer.specs.declared.opcode.Operation.TheVariants.{Read, Write}
use Rattle.fdc_sequencer.specs.declared.transfer.Transfer.{Transfer}

-- ---- the controller's own commands

-- a command of several sectors, at its first sector. The Bool says whether the heads go to its cylinder first
abbrev pub transfer_with : Bool → Opcode → ℕ → Chrn → ℕ → ℕ → ℕ → Transfer
transfer_with seeks opcode head_drive key last_sector gap length = record {
  opcode = opcode;
  head_drive = head_drive;
  key = key;
  last_sector = last_sector;
  gap = gap;
  length = length;
  seeks = seeks;
}

-- the controller's own command for one sector
abbrev pub command_for : Operation → ℕ → Chrn → ℕ → ℕ → ℕ → Command
command_for (Read _ _) head_drive key last_sector gap length = ReadData head_drive key last_sector gap length
command_for (Write false) head_drive key last_sector gap length = WriteData head_drive key last_sector gap length
command_for (Write true) head_drive key last_sector gap length = WriteDeleted head_drive key last_sector gap length

abbrev pub command_of : Transfer → Command
command_of transfer =
    command_for transfer.opcode.operation transfer.head_drive transfer.key transfer.last_sector transfer.gap transfer.length

-- ---- from sector to sector

-- the head in the second byte of a command is 1
abbrev pub is_second_head : ℕ → Bool
is_second_head head_drive = not (bit_and head_drive 4 == 0)

-- the next record of the track
abbrev pub next_record : Transfer → Transfer
next_record at = record at { key = record at.key { r = (at.key.r + 1) % 256 } }

-- record 1 of the next cylinder
abbrev pub next_cylinder : Transfer → Transfer
next_cylinder at = record at { key = record at.key { c = (at.key.c + 1) % 256; r = 1 } }

-- record 1 of the other head. If the head was 1, this is on the next cylinder
abbrev pub other_head : Transfer → Transfer
other_head at = record at {
  head_drive = bit_xor at.head_drive 4;
  key = record at.key {
    c = if is_second_head at.head_drive then (at.key.c + 1) % 256 else at.key.c;
    h = bit_xor at.key.h 1;
    r = 1;
  };
}

-- the sector after this one
abbrev pub next_of : Transfer → Transfer
next_of at =
    if at.key.r == at.last_sector then (if at.opcode.multitrack then other_head at else next_cylinder at)
    else next_record at

-- the last sector of the command
abbrev pub is_last : Transfer → Bool
is_last at = (at.key.r == at.last_sector) && (not at.opcode.multitrack || is_second_head at.head_drive)

-- how many bytes a sector has
abbrev pub size_of : ℕ → ℕ
size_of n = if n == 1 then 256 else (if n == 2 then 512 else (if n == 3 then 1024 else (if n == 4 then 2048 else (
    if n == 5 then 4096 else (if n == 6 then 8192 else 128)))))

-- ---- marks

-- a field with this mark isn't one of those that are wanted
abbrev pub is_other : Operation → Bool → Bool
is_other (Read true _) deleted = not deleted
is_other (Read false _) deleted = deleted
is_other (Write _) deleted = false

-- the mark of the fields that aren't wanted
abbrev pub other_mark : Operation → Bool
other_mark (Read deleted _) = not deleted
other_mark (Write deleted) = not deleted

-- whether fields with the other mark are passed over
abbrev pub is_skipping : Operation → Bool
is_skipping (Read _ skip) = skip
is_skipping (Write _) = false

-- ---- results

-- the results of this ending, with SE if the heads went to the cylinder first
abbrev pub results_sought : Ending → Transfer → Chrn → Results
results_sought ending at key =
    let told = results_of ending at.head_drive key in
    if at.seeks then record told { st0 = record { 0 = bit_or told.st0.0 seek_end } } else told

-- these results, with CM if a field was passed over
abbrev pub results_told : Ending → Transfer → Chrn → Bool → Results
results_told ending at key passed_over =
    let told = results_sought ending at key in
    if passed_over then record told { st2 = record { 0 = bit_or told.st2.0 control_mark } } else told
