-- The result bytes of commands.
use Rattle.std.specs.Prelude.{ℕ, ◌+◌, ◌%◌, Bool, false, Some, None, if◌then◌else◌, nat_le, get_or, bit_and, ◌==◌}
use Rattle.std.specs.Int.RustNames.{bit_or}
use Rattle.fdc_phases.specs.Common.{Chrn, Results, Ending, Done, NoMark, NoSector, NoField, BadCheck, Overrun, NoCount, Protected, Late}
use Rattle.fdc_registers.specs.declared.results.St0.{St0}
use Rattle.fdc_registers.specs.declared.results.St1.{St1}
use Rattle.fdc_registers.specs.declared.results.St2.{St2}
use Rattle.fdc_registers.specs.St0 as st0
use Rattle.fdc_registers.specs.St1 as st1
use Rattle.fdc_registers.specs.St2 as st2
use Rattle.fdc_commands.specs.Results.{result_bytes}
use Rattle.fdc_phases.specs.declared.answers.Answer.{Answer}
use Rattle.fdc_phases.specs.declared.answers.Answer.TheVariants.{Short, Long}
use Rattle.fdc_phases.specs.declared.phases.Phase.{Phase}
use Rattle.fdc_phases.specs.declared.phases.Phase.TheVariants.{Command, Result}

-- status register 0: the head and the drive as they were sent, with IC 00 where all was done, else IC 01
abbrev pub st0_of : Ending → ℕ → St0
st0_of (Done _) head_drive = record { 0 = bit_and head_drive 7 }
st0_of _ head_drive = record { 0 = bit_or (bit_and head_drive 7) st0.abnormal }

-- status register 1: what went wrong
abbrev pub st1_of : Ending → St1
st1_of (Done _) = record { 0 = 0 }
st1_of NoMark = record { 0 = st1.missing_mark }
st1_of NoSector = record { 0 = st1.no_data }
st1_of NoField = record { 0 = st1.missing_mark }
st1_of BadCheck = record { 0 = st1.data_error }
st1_of Overrun = record { 0 = st1.overrun }
st1_of NoCount = record { 0 = st1.end_of_cylinder }
st1_of Protected = record { 0 = st1.not_writable }
st1_of Late = record { 0 = st1.missing_mark }

-- status register 2: whether a field that was read whole has the mark F8, or else what was wrong with the data field
abbrev pub st2_of : Ending → St2
st2_of (Done deleted) = record { 0 = if deleted then st2.control_mark else 0 }
st2_of NoField = record { 0 = st2.missing_data_mark }
st2_of BadCheck = record { 0 = st2.data_field_error }
st2_of _ = record { 0 = 0 }

-- the results of a data command with this ending and this key
abbrev pub results_of : Ending → ℕ → Chrn → Results
results_of ending head_drive key =
    record { st0 = st0_of ending head_drive; st1 = st1_of ending; st2 = st2_of ending; key = key }

-- the byte that the host reads next
abbrev pub next_byte : Answer → ℕ
next_byte (Short next _) = next
next_byte (Long _ results taken) = get_or (result_bytes results) taken 0xFF

-- the phase after the host read that byte; after the last one the controller takes commands
abbrev pub after_byte : Answer → Phase
after_byte (Short _ None) = Command
after_byte (Short _ (Some byte)) = Result (Short byte None)
after_byte (Long ending results taken) =
    if nat_le 6 taken then Command else Result (Long ending results (taken + 1))

-- the key after a sector that was transferred: the next record, or record 1 of the next cylinder after the last record
abbrev pub next_key : Chrn → ℕ → Chrn
next_key key last_sector =
    if key.r == last_sector then record key { c = (key.c + 1) % 256; r = 1 }
    else record key { r = (key.r + 1) % 256 }

-- the key in the results of a command that sends a key: the next one where all was done, else the key as it was sent
abbrev pub key_after : Ending → Chrn → ℕ → Chrn
key_after (Done _) key last_sector = next_key key last_sector
key_after _ key last_sector = key

-- the key 00 00 00 00
abbrev pub no_key : Chrn
no_key = record { c = 0; h = 0; r = 0; n = 0 }

-- these are the results of a data command, and none of them was read
abbrev pub is_fresh : Answer → Bool
is_fresh (Short _ _) = false
is_fresh (Long _ _ taken) = taken == 0
