-- Port accesses, and the side of the channel.
use Rattle.std.specs.Prelude.{◌≡◌, ℕ, ◌+◌, ◌-◌, ◌%◌, Bool, true, false, not, ◌==◌, ◌&&◌, ◌||◌, Option, Some, None, if◌then◌else◌, nat_le, get_or, length, unwrap_or, bit_and}
use Rattle.fdc_chip.specs.Common.{bit_or, gate, GivesFront, TakesFront, WritesFront, is_ready, told_front}
use Rattle.fdc_core.specs.Ports.{resets}
use Rattle.fdc_chip.specs.Answers.{answer_bytes, is_of_data}
use Rattle.fdc_chip.specs.Chips.{ChipState, with_front, KeepsRest, status_of, value_of, passes_by_port, passes_by_channel, is_data}
use Rattle.fdc_chip.specs.Codes.{code_of, has_bit, parameters}
use Rattle.fdc_chip.specs.Doing.{AttendsTo}
use Rattle.fdc_chip.specs.Interrupts.{at_rest}
use Rattle.fdc_chip.specs.Orders.{with_byte}
use Rattle.fdc_chip.specs.Settings.{reset}
use Rattle.fdc_chip.specs.declared.answer.ChipAnswer.{ChipAnswer}
use Rattle.fdc_chip.specs.declared.code.ChipOpcode.{ChipOpcode}
use Rattle.fdc_chip.specs.declared.stage.ChipStage.{ChipStage}
use Rattle.fdc_chip.specs.declared.stage.ChipStage.TheVariants.{Ready, Busy, Telling}
use Rattle.fdc_chip.specs.declared.stage.ChipTask.TheVariants as task
use Rattle.fdc_chip.specs.declared.stage.Track.{Track}

-- ---- reads

-- the first byte of a data command's results lets INT fall
abbrev pub quieted_if : Bool → ChipState → ChipState
quieted_if true old = record old { interrupts = record old.interrupts { line = false } }
quieted_if false old = old

-- a byte of an answer was read. After the last byte the controller takes commands
abbrev pub byte_told : ChipAnswer → ℕ → ChipState → ChipState
byte_told answer read old =
    record (quieted_if (is_of_data answer && read == 0) old) { stage = if nat_le (length (answer_bytes answer)) (read + 1) then Ready else Telling answer (read + 1) }

-- a byte of the command in execution is read, or FF if none is asked for
pub record PassesOut (old : ChipState) (value : ℕ) (new : ChipState) : Type 0 where
  pub byte : Option ℕ
  pub takes : TakesFront old.front byte new.front
  pub value_is : value ≡ unwrap_or byte 0xFF
  pub rest : KeepsRest old new

abbrev pub ReadsIf : Bool → ChipState → ℕ → ChipState → Type 0
ReadsIf true old value new = PassesOut old value new
ReadsIf false old value new = (value ≡ 0xFF) × (new ≡ old)

abbrev pub ReadsAt : ChipStage → ChipState → ℕ → ChipState → Type 0
ReadsAt (Telling answer read) old value new = (value ≡ get_or (answer_bytes answer) read 0xFF) × (new ≡ byte_told answer read old)
ReadsAt _ old value new = ReadsIf (passes_by_port old) old value new

-- a port is read
pub record ReadsChip (port : ℕ) (old : ChipState) (value : ℕ) (new : ChipState) : Type 0 where
  pub status : port ≡ 0x3F4 → (value ≡ status_of old) × (new ≡ old)
  pub byte : port ≡ 0x3F5 → ReadsAt old.stage old value new
  pub others : (port == 0x3F4) ≡ false → (port == 0x3F5) ≡ false → (value ≡ value_of port old) × (new ≡ old)

-- ---- writes

-- the bytes so far are a whole command, or aren't one yet
abbrev pub CollectsIf : Bool → Option ChipOpcode → ChipState → ChipState → Type 0
CollectsIf true code old new = AttendsTo code (record old { count = 0 }) new
CollectsIf false code old new = new ≡ old

-- whether this many bytes are a whole command. If the code doesn't exist, one byte is
abbrev pub is_whole : ℕ → Option ChipOpcode → Bool
is_whole count None = true
is_whole count (Some code) = nat_le (parameters code + 1) count

abbrev pub Collects : ChipState → ChipState → Type 0
Collects old new = let code = code_of old.order.code in CollectsIf (is_whole old.count code) code old new

-- a byte of a command comes
abbrev pub with_next : ℕ → ChipState → ChipState
with_next byte old = record old { order = with_byte old.count byte old.order; count = (old.count + 1) % 256 }

-- a byte of a command is taken if a command has begun, or may begin
abbrev pub may_come : ChipState → Bool
may_come old = not (old.count == 0) || is_ready old.front

abbrev pub ComesIf : Bool → ℕ → ChipState → ChipState → Type 0
ComesIf true byte old new = Collects (with_next byte old) new
ComesIf false byte old new = new ≡ old

-- after a byte was given, a FORMAT TRACK has one byte fewer left
abbrev pub given_one : Bool → ChipState → ChipState
given_one was old = record old { keys = if was then old.keys - 1 else old.keys }

-- a byte of the command in execution is written
pub record PassesIn (byte : ℕ) (old new : ChipState) : Type 0 where
  pub was : Bool
  pub gives : GivesFront byte old.front was new.front
  pub rest : KeepsRest (given_one was old) new

abbrev pub GivesIf : Bool → ℕ → ChipState → ChipState → Type 0
GivesIf true byte old new = PassesIn byte old new
GivesIf false byte old new = new ≡ old

-- a byte is written to the data port
abbrev pub TakesByte : ChipStage → ℕ → ChipState → ChipState → Type 0
TakesByte Ready byte old new = ComesIf (may_come old) byte old new
TakesByte _ byte old new = GivesIf (passes_by_port old) byte old new

-- a reset ends what is under way. It forgets results, cylinders, and what CONFIGURE set and LOCK doesn't keep. TDR stays
abbrev pub reset_if : Bool → ChipState → ChipState
reset_if true old = record old { stage = Ready; count = 0; interrupts = at_rest; settings = reset old.settings; pace = None }
reset_if false old = old

-- DOR lets INT and DRQ out of the chip or keeps them in. The inner controller always lets them out. TDR keeps its two
-- low bits
abbrev pub latched_by : ℕ → ℕ → ChipState → ChipState
latched_by port value old = record old {
  gated = if port == 0x3F2 then has_bit value gate else old.gated;
  tape = if port == 0x3F3 then bit_and value 0x03 else old.tape;
}

abbrev pub value_behind : ℕ → ℕ → ℕ
value_behind port value = if port == 0x3F2 then bit_or value gate else value

-- a byte is written to a port
pub record WritesChip (port value : ℕ) (old new : ChipState) : Type 0 where
  pub bytes : port ≡ 0x3F5 → TakesByte old.stage value old new
  pub others : (port == 0x3F5) ≡ false → WritesFront port (value_behind port value) old.front new.front
      × KeepsRest (reset_if (resets port (value_behind port value)) (latched_by port value old)) new

-- ---- the channel

abbrev pub TakesIf : Bool → ChipState → Option ℕ → ChipState → Type 0
TakesIf true old byte new = TakesFront old.front byte new.front × KeepsRest old new
TakesIf false old byte new = (byte ≡ None) × (new ≡ old)

-- the channel takes a byte, if one is asked for in this direction
abbrev pub TakesChip : ChipState → Option ℕ → ChipState → Type 0
TakesChip old byte new = TakesIf (passes_by_channel old) old byte new

abbrev pub GivesChipIf : Bool → ℕ → ChipState → Bool → ChipState → Type 0
GivesChipIf true byte old was new = GivesFront byte old.front was new.front × KeepsRest (given_one was old) new
GivesChipIf false byte old was new = (was ≡ false) × (new ≡ old)

-- the channel gives a byte, if one is asked for in this direction
abbrev pub GivesChip : ℕ → ChipState → Bool → ChipState → Type 0
GivesChip byte old was new = GivesChipIf (passes_by_channel old) byte old was new

-- the terminal count comes. While bytes pass, the inner controller is given it. A READ TRACK ends after its sector
abbrev pub counted_if : Bool → ChipState → ChipState
counted_if true old = with_front (told_front old.front) old
counted_if false old = old

abbrev pub count_told : ChipStage → ChipState → ChipState
count_told (Busy task.Sent) old = counted_if true old
count_told (Busy (task.Track track)) old =
    counted_if (is_data track.place) (record old { stage = Busy (task.Track (record track { counted = true })) })
count_told _ old = old

abbrev pub told_chip : ChipState → ChipState
told_chip old = count_told old.stage old
