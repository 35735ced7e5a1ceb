-- The codes of the commands of several sectors.
use Rattle.std.specs.Prelude.{ℕ, Bool, true, false, not, ◌==◌, if◌then◌else◌, bit_and}
use Rattle.fdc_sequencer.specs.declared.opcode.Opcode.{Opcode}
use Rattle.fdc_sequencer.specs.declared.opcode.Operation.{Operation}
use Rattle.fdc_sequencer.specs.declared.opcode.Operation.TheVariants.{Read, Write}

-- SK in a code
abbrev pub skips : ℕ → Bool
skips code = not (bit_and code 0x20 == 0)

-- what a command does with its sectors, by the low five bits of its code: WRITE DATA, WRITE DELETED DATA or READ DELETED
-- DATA, and READ DATA for any other
abbrev pub operation_with : ℕ → Bool → Operation
operation_with low skip =
    if low == 0x05 then Write false else (
    if low == 0x09 then Write true else (
    if low == 0x0C then Read true skip else
    Read false skip))

-- what a code asks for, with MT or without
abbrev pub opcode_of : ℕ → Opcode
opcode_of code = record {
  operation = operation_with (bit_and code 0x1F) (skips code);
  multitrack = not (bit_and code 0x80 == 0);
}
