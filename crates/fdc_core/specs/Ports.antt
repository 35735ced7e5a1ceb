-- The controller's ports.
use Rattle.std.specs.Prelude.{◌≡◌, ◌<◌, ◌≤◌, ◌+◌, get_or, ℕ, Bool, true, false, not, ◌==◌, if◌then◌else◌, bit_and}
use Rattle.fdc_core.specs.Common.{bit_or, not_reset, is_begun, seek_bits, next_byte, after_byte, is_fresh, rate_chosen, Results, Ending, Long, Phase, Command, Execute, Result}
use Rattle.fdc_registers.specs.Dir.{changed}
use Rattle.fdc_registers.specs.Msr.{rqm, dio, busy}
use Rattle.fdc_core.specs.Commands.{Takes}
use Rattle.fdc_core.specs.State.{is_held, reset}
use Rattle.fdc_commands.specs.Results.{result_bytes}
use Rattle.fdc_core.specs.declared.controller.Fdc.{Fdc}
use Rattle.fdc_core.specs.declared.controller.Lines.{Lines}

-- the bits of MSR by the phase, and by whether a command has begun
abbrev pub phase_bits : Bool → Phase → ℕ
phase_bits begun Command = if begun then bit_or rqm busy else rqm
phase_bits begun (Execute _) = busy
phase_bits begun (Result _) = bit_or (bit_or rqm dio) busy

-- MSR: 00 in reset, otherwise the bits of the phase with the seek bits
abbrev pub main_status : Fdc → ℕ
main_status fdc =
    if is_held fdc then 0 else bit_or (phase_bits (is_begun fdc.command) fdc.phase) (seek_bits fdc.seeks)

-- DIR: the change line of the selected drive
abbrev pub line_bits : Lines → ℕ
line_bits lines = if lines.changed then changed else 0

-- the data port gives the next result byte, and FF where there is none
abbrev pub result_byte : Phase → ℕ
result_byte (Result answer) = next_byte answer
result_byte _ = 0xFF

-- INT after a read of the data port: it falls with the first result byte of a data command
abbrev pub interrupt_after : Phase → Bool → Bool
interrupt_after (Result answer) interrupt = if is_fresh answer then false else interrupt
interrupt_after _ interrupt = interrupt

-- the phase after a read of the data port
abbrev pub phase_after : Phase → Phase
phase_after (Result answer) = after_byte answer
phase_after phase = phase

-- a read of the data port
abbrev pub given : Fdc → Fdc
given old = record old { interrupt = interrupt_after old.phase old.interrupt; phase = phase_after old.phase }

-- what a read of a port gives
abbrev pub value_read : ℕ → Lines → Fdc → ℕ
value_read port lines fdc =
    if port == 0x3F2 then fdc.dor.0 else (
    if port == 0x3F4 then main_status fdc else (
    if port == 0x3F5 then result_byte fdc.phase else (
    if port == 0x3F7 then line_bits lines else
    0xFF)))

-- what a read of a port leaves
abbrev pub after_read : ℕ → Fdc → Fdc
after_read port old = if port == 0x3F5 then given old else old

-- the data port takes a byte: in the command phase, unless DOR holds the controller in reset
abbrev pub takes_in : Phase → Bool → Bool
takes_in Command held = not held
takes_in _ held = false

abbrev pub is_taking : Fdc → Bool
is_taking fdc = takes_in fdc.phase (is_held fdc)

-- a byte of DOR with a zero in bit 2 resets the controller
abbrev pub dor_resets : ℕ → Bool
dor_resets value = not (bit_and value not_reset == not_reset)

-- a byte of DSR with a one in bit 7 resets the controller
abbrev pub dsr_resets : ℕ → Bool
dsr_resets value = not (bit_and value 0x80 == 0)

-- a byte that is written to a port resets the controller
abbrev pub resets : ℕ → ℕ → Bool
resets port value =
    if port == 0x3F2 then dor_resets value else (
    if port == 0x3F4 then dsr_resets value else
    false)

-- DOR is written, which may reset the controller
abbrev pub dor_written : ℕ → Fdc → Fdc
dor_written value old =
    let set : Fdc = record old { dor = record { 0 = value } } in if dor_resets value then reset set else set

-- DSR is written: bits 1 and 0 set the rate, and the byte may reset the controller
abbrev pub dsr_written : ℕ → Fdc → Fdc
dsr_written value old =
    let set : Fdc = record old { rate = rate_chosen value } in if dsr_resets value then reset set else set

-- CCR is written: bits 1 and 0 set the rate
abbrev pub ccr_written : ℕ → Fdc → Fdc
ccr_written value old = record old { rate = rate_chosen value }

-- a byte is written to the data port. It is ignored where the port takes none
abbrev pub WritesData : ℕ → Lines → Fdc → Fdc → Type 0
WritesData value lines old new =
    (is_taking old ≡ true → Takes value lines old new) × (is_taking old ≡ false → new ≡ old)

-- a byte is written to a port
pub record Writes (port value : ℕ) (lines : Lines) (old new : Fdc) : Type 0 where
  pub output : port ≡ 0x3F2 → new ≡ dor_written value old
  pub select : port ≡ 0x3F4 → new ≡ dsr_written value old
  pub bytes : port ≡ 0x3F5 → WritesData value lines old new
  pub control : port ≡ 0x3F7 → new ≡ ccr_written value old
  pub others : (port == 0x3F2) ≡ false → (port == 0x3F4) ≡ false → (port == 0x3F5) ≡ false → (port == 0x3F7) ≡ false → new ≡ old

-- the controller gives the results of this ending, and so many bytes of them were read
abbrev pub IsGiving : Ending → Results → ℕ → Fdc → Type 0
IsGiving ending results read fdc = fdc.phase ≡ Result (Long ending results read)

-- a read of the data port then gives the next byte. After the seventh byte the controller takes commands
pub record GivesNext (ending : Ending) (results : Results) (read byte : ℕ) (new : Fdc) : Type 0 where
  pub byte_is : byte ≡ get_or (result_bytes results) read 0xFF
  pub goes_on : read < 6 → IsGiving ending results (read + 1) new
  pub over : 6 ≤ read → new.phase ≡ Command

abbrev pub Gives : ℕ → Fdc → ℕ → Fdc → Type 0
Gives port old byte new =
    port ≡ 0x3F5 → (ending : Ending) (results : Results) (read : ℕ) → IsGiving ending results read old → GivesNext ending results read byte new
