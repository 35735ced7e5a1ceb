-- What the results of a data command come to.
use Rattle.std.specs.Prelude.{ℕ, Bool, not, ◌==◌, if◌then◌else◌, bit_and}
use Rattle.machine_commands.specs.Common.{Rate, R500, R250, Code}
use Rattle.flop_base.specs.declared.answers.Code.TheVariants.{Protected, Overrun, NoMark, NotFound, BadCrc}
use Rattle.fdc_registers.specs.St1.{not_writable, overrun, missing_mark, no_data}

-- these bits are set in a byte
abbrev pub has_set : ℕ → ℕ → Bool
has_set byte bits = not (bit_and byte bits == 0)

-- the refusal of a command that failed, by its status register 1: that of the first bit that is set
abbrev pub refusal_of : ℕ → Code
refusal_of status =
    if has_set status not_writable then Protected else (
    if has_set status overrun then Overrun else (
    if has_set status missing_mark then NoMark else (
    if has_set status no_data then NotFound else
    BadCrc)))

-- the bits of CCR that choose a rate
abbrev pub rate_byte : Rate → ℕ
rate_byte R500 = 0
rate_byte R250 = 2
