-- What the commands do, once their last byte came.
use Rattle.std.specs.Prelude.{◌≡◌, ℕ, ◌+◌, ◌%◌, min, Bool, true, false, not, ◌==◌, [], ◌∷◌, ◌++◌, Option, Some, None, if◌then◌else◌, bit_and, slice_index}
use Rattle.fdc_core.specs.Common.{bit_or, last_count, answer, kept, Accepted, More, Ready, Invalid, emptied, with_motion, seek_bits, sensed, after_sense, Outward, Toward, Short, Execute, Result, Task, IsReadingId, IsReadingData, WaitsAtFirst, IsWritingData, IsFormattingTrack}
use Rattle.fdc_registers.specs.St3.{always_one, track_0, protected}
use Rattle.fdc_commands.specs.declared.command.Command.{Command}
use Rattle.fdc_commands.specs.declared.command.Command.TheVariants as command
use Rattle.fdc_core.specs.declared.controller.Fdc.{Fdc}
use Rattle.fdc_core.specs.declared.controller.Lines.{Lines}
use Rattle.fdc_core.specs.Dma.{asked}

-- the result phase of a command without execution
abbrev pub answered : ℕ → Option ℕ → Fdc → Fdc
answered next last old = record old { phase = Result (Short next last) }

-- the bits that report a line
abbrev pub bits_if : Bool → ℕ → ℕ → ℕ
bits_if told bits byte = if told then bit_or byte bits else byte

-- status register 3: the lines of the selected drive, with the head and the drive as they were sent
abbrev pub status_of_lines : Lines → ℕ → ℕ
status_of_lines lines head_drive =
    bits_if lines.protected protected (bits_if lines.track0 track_0 (bit_or (bit_and head_drive 7) always_one))

-- SENSE INTERRUPT gives the pending result of the lowest drive, and INT falls. It gives 80 where none is pending
abbrev pub sensing_by : Option (ℕ × ℕ) → Fdc → Fdc
sensing_by None old = answered 0x80 None old
sensing_by (Some (status, cylinder)) old =
    answered status (Some cylinder) (record old { seeks = after_sense old.seeks; interrupt = false })

abbrev pub sensing : Fdc → Fdc
sensing old = sensing_by (sensed old.seeks) old

-- CONFIGURE empties the FIFO, sets it on or off and its threshold, and turns polling on or off. A poll that is still to
-- come is lost where polling is turned off
abbrev pub configured : ℕ → Fdc → Fdc
configured options old = record old {
  fifo = emptied (bit_and options 0x20 == 0) (bit_and options 0x0F + 1);
  polling = bit_and options 0x10 == 0;
  poll_due = if bit_and options 0x10 == 0 then old.poll_due else false;
}

-- SPECIFY sets ND, bit 0 of its last byte
abbrev pub specified : ℕ → Fdc → Fdc
specified hlt_nd old = record old { non_dma = not (bit_and hlt_nd 1 == 0) }

-- RECALIBRATE begins
abbrev pub recalibrating : ℕ → Fdc → Fdc
recalibrating drive old = record old { seeks = with_motion old.seeks (drive % 4) (Outward 79) }

-- SEEK begins at the present cylinder number
abbrev pub seeking : ℕ → ℕ → Fdc → Fdc
seeking head_drive target old = record old {
  seeks = with_motion old.seeks (head_drive % 4) (Toward (slice_index old.seeks.cylinders (head_drive % 4)) target);
}

-- the execution of a data command begins: the FIFO is empty, DRQ is down, and the command is counted
abbrev pub begun : ℕ → Task → Fdc → Fdc
begun head_drive task old = record old {
  asking = false;
  phase = Execute (record { head_drive = head_drive; steps = 0; task = task });
  fifo = emptied old.fifo.on old.fifo.threshold;
  data_commands = min (old.data_commands + 1) last_count;
}

-- the execution of such a task begins
abbrev pub BeginsTask : ℕ → (Task → Type 0) → Fdc → Fdc → Type 0
BeginsTask head_drive Is old new = (task : Task) × Is task × WaitsAtFirst task × (new ≡ begun head_drive task old)

-- the execution of such a task begins, and it asks for bytes
abbrev pub BeginsAsking : ℕ → (Task → Type 0) → Fdc → Fdc → Type 0
BeginsAsking head_drive Is old new =
    (task : Task) × Is task × WaitsAtFirst task × (new ≡ asked (begun head_drive task old))

-- a data command begins
abbrev pub BeginsData : Command → Fdc → Fdc → Type 0
BeginsData (command.ReadId head_drive) old new = BeginsTask head_drive (IsReadingId head_drive) old new
BeginsData (command.ReadData head_drive key last_sector _ _) old new =
    BeginsTask head_drive (IsReadingData (record { head_drive = head_drive; key = key; last_sector = last_sector })) old new
BeginsData (command.WriteData head_drive key last_sector _ _) old new =
    BeginsAsking head_drive (IsWritingData (record { head_drive = head_drive; key = key; last_sector = last_sector }) false) old new
BeginsData (command.WriteDeleted head_drive key last_sector _ _) old new =
    BeginsAsking head_drive (IsWritingData (record { head_drive = head_drive; key = key; last_sector = last_sector }) true) old new
BeginsData (command.FormatTrack head_drive n sectors gap3 fill) old new =
    BeginsAsking head_drive (IsFormattingTrack head_drive (record { n = n; sectors = sectors; gap3 = gap3; fill = fill })) old new
BeginsData _ old new = new ≡ answered 0x80 None old

-- a data command begins, or is invalid where SPECIFY set ND
abbrev pub Begins : Command → Fdc → Fdc → Type 0
Begins command old new =
    (old.non_dma ≡ true → new ≡ answered 0x80 None old) × (old.non_dma ≡ false → BeginsData command old new)

-- what a command does while no seek bit is set
abbrev pub ObeysAtRest : Command → Lines → Fdc → Fdc → Type 0
ObeysAtRest (command.Specify _ hlt_nd) lines old new = new ≡ specified hlt_nd old
ObeysAtRest (command.SenseDrive head_drive) lines old new =
    new ≡ answered (status_of_lines lines head_drive) None old
ObeysAtRest (command.Recalibrate drive) lines old new = new ≡ recalibrating drive old
ObeysAtRest command.SenseInterrupt lines old new = new ≡ sensing old
ObeysAtRest (command.Seek head_drive target) lines old new = new ≡ seeking head_drive target old
ObeysAtRest command.Version lines old new = new ≡ answered 0x90 None old
ObeysAtRest (command.Configure _ options _) lines old new = new ≡ configured options old
ObeysAtRest command lines old new = Begins command old new

-- what a command does: while a seek bit is set, any but SENSE INTERRUPT is invalid
abbrev pub Obeys : Command → Lines → Fdc → Fdc → Type 0
Obeys command.SenseInterrupt lines old new = new ≡ sensing old
Obeys command lines old new =
    (seek_bits old.seeks ≡ 0 → ObeysAtRest command lines old new)
    × ((seek_bits old.seeks == 0) ≡ false → new ≡ answered 0x80 None old)

-- the controller does what the bytes of a command came to
abbrev pub TakesAs : Accepted → Lines → Fdc → Fdc → Type 0
TakesAs More lines old new = new ≡ old
TakesAs (Ready command) lines old new = Obeys command lines old new
TakesAs Invalid lines old new = new ≡ answered 0x80 None old

-- a byte of a command comes. It is kept until the command is whole or invalid, and the command is then answered
abbrev pub Takes : ℕ → Lines → Fdc → Fdc → Type 0
Takes byte lines old new =
    let bytes = old.command ++ byte ∷ [] in
    TakesAs (answer bytes) lines (record old { command = kept (answer bytes) bytes }) new
