-- The codes of the commands (82077AA data sheet, command set).
use Rattle.std.specs.Prelude.{ℕ, Bool, not, ◌==◌, ◌&&◌, Option, Some, None, if◌then◌else◌, bit_and}
use Rattle.fdc_chip.specs.declared.code.ChipOpcode.{ChipOpcode}
use Rattle.fdc_chip.specs.declared.code.ChipOpcode.TheVariants.{ReadTrack, Specify, SenseDrive, Transfer, Recalibrate, SenseInterrupt, ReadId, FormatTrack, DumpRegisters, Seek, RelativeSeek, Version, Perpendicular, Configure, Lock, Verify}

abbrev pub has_bit : ℕ → ℕ → Bool
has_bit byte bit = not (bit_and byte bit == 0)

-- MT in a code; then MFM and SK
abbrev pub has_multitrack : ℕ → Bool
has_multitrack byte = has_bit byte 0x80

abbrev pub has_mfm : ℕ → Bool
has_mfm byte = has_bit byte 0x40

abbrev pub has_skip : ℕ → Bool
has_skip byte = has_bit byte 0x20

-- the code has neither MT nor SK
abbrev pub is_bare : ℕ → Bool
is_bare byte = not (has_multitrack byte) && not (has_skip byte)

-- the command whose code has these low five bits, by the bits above them. READ ID is taken with any MT and SK
abbrev pub code_with : ℕ → ℕ → Option ChipOpcode
code_with low byte =
    if low == 0x02 then (if is_bare byte then Some (ReadTrack (has_mfm byte)) else None) else (
    if low == 0x03 then (if byte == 0x03 then Some Specify else None) else (
    if low == 0x04 then (if byte == 0x04 then Some SenseDrive else None) else (
    if low == 0x05 then (if not (has_skip byte) then Some (Transfer (has_mfm byte)) else None) else (
    if low == 0x09 then (if not (has_skip byte) then Some (Transfer (has_mfm byte)) else None) else (
    if low == 0x06 then Some (Transfer (has_mfm byte)) else (
    if low == 0x0C then Some (Transfer (has_mfm byte)) else (
    if low == 0x07 then (if byte == 0x07 then Some Recalibrate else None) else (
    if low == 0x08 then (if byte == 0x08 then Some SenseInterrupt else None) else (
    if low == 0x0A then Some (ReadId (has_mfm byte)) else (
    if low == 0x0D then (if is_bare byte then Some (FormatTrack (has_mfm byte)) else None) else (
    if low == 0x0E then (if byte == 0x0E then Some DumpRegisters else None) else (
    if low == 0x0F then (if byte == 0x0F then Some Seek
    else (if has_multitrack byte && not (has_skip byte) then Some (RelativeSeek (has_mfm byte)) else None)) else (
    if low == 0x10 then (if byte == 0x10 then Some Version else None) else (
    if low == 0x12 then (if byte == 0x12 then Some Perpendicular else None) else (
    if low == 0x13 then (if byte == 0x13 then Some Configure else None) else (
    if low == 0x14 then (if not (has_mfm byte) && not (has_skip byte) then Some (Lock (has_multitrack byte)) else None) else (
    if low == 0x16 then Some (Verify (has_mfm byte)) else
    None)))))))))))))))))

abbrev pub code_of : ℕ → Option ChipOpcode
code_of byte = code_with (bit_and byte 0x1F) byte

-- how many bytes follow the code of a command
abbrev pub parameters : ChipOpcode → ℕ
parameters SenseInterrupt = 0
parameters DumpRegisters = 0
parameters Version = 0
parameters (Lock _) = 0
parameters SenseDrive = 1
parameters Recalibrate = 1
parameters (ReadId _) = 1
parameters Perpendicular = 1
parameters Specify = 2
parameters Seek = 2
parameters (RelativeSeek _) = 2
parameters Configure = 3
parameters (FormatTrack _) = 5
parameters (Transfer _) = 8
parameters (ReadTrack _) = 8
parameters (Verify _) = 8
