-- The whole controller with its drives, as contracts see it: its state and its lines.
use Rattle.std.specs.Prelude.{◌≡◌, ℕ, Bool, true, false, not, ◌==◌, ◌&&◌, ◌||◌, Option, Some, None, if◌then◌else◌, bit_and, nat_le, nat_lt}
use Rattle.fdc_chip.specs.Common.{bit_or, DriveState, place_under, rate_of, drive_at, selected_at, gate, to_memory_of, Front, drive_bit, front_state, front_with_drive, IsNewFront, KeepsFront, interrupts_outside, asks_outside, value_outside}
use Rattle.flop_base.specs.declared.answers.Rate.{Rate}
use Rattle.flop_base.specs.declared.answers.Rate.TheVariants.{R500, R250}
use Rattle.fdc_registers.specs.Msr.{rqm, dio, non_dma, busy}
use Rattle.fdc_sequencer.specs.declared.sequencer.Sequencer.{Sequencer}
use Rattle.fdc_chip.specs.Interrupts.{Interrupting, at_rest, seek_bits}
use Rattle.fdc_chip.specs.Orders.{blank, is_format}
use Rattle.fdc_chip.specs.Settings.{at_power_up, is_by_port}
use Rattle.fdc_chip.specs.declared.chip.Chip.{Chip}
use Rattle.fdc_chip.specs.declared.order.Order.{Order}
use Rattle.fdc_chip.specs.declared.pace.PacedSeek.{PacedSeek}
use Rattle.fdc_chip.specs.declared.settings.Settings.{Settings}
use Rattle.fdc_chip.specs.declared.stage.Place.{Place}
use Rattle.fdc_chip.specs.declared.stage.Place.TheVariants.{Data}
use Rattle.fdc_chip.specs.declared.stage.ChipStage.{ChipStage}
use Rattle.fdc_chip.specs.declared.stage.ChipStage.TheVariants.{Ready, Held, Busy, Telling}
use Rattle.fdc_chip.specs.declared.stage.ChipTask.{ChipTask}
use Rattle.fdc_chip.specs.declared.stage.ChipTask.TheVariants.{Sent, Track}

-- the inner controller (`front`), what is under way, the command that came last, and how many bytes came of a command
-- that isn't whole. Then come results and interrupt line, what commands set, and the strap for implied seeks. The other
-- fields are how many bytes of sector IDs a FORMAT TRACK still takes, and whether DOR lets INT and DRQ out. Then come a
-- seek whose pulses come in the time that SPECIFY sets, and the strap for such seeks. The last one is what TDR keeps
pub record ChipState : Type 0 where
  pub front : Front
  pub stage : ChipStage
  pub order : Order
  pub count : ℕ
  pub interrupts : Interrupting
  pub settings : Settings
  pub strapped : Bool
  pub keys : ℕ
  pub gated : Bool
  pub pace : Option PacedSeek
  pub paced : Bool
  pub tape : ℕ

abbrev pub chip_state : {D : Type 0} → (D → DriveState) → Chip D → ChipState
chip_state state chip = record {
  front = front_state state chip.behind;
  stage = chip.stage;
  order = chip.order;
  count = chip.count;
  interrupts = chip.interrupts;
  settings = chip.settings;
  strapped = chip.strapped;
  keys = chip.keys;
  gated = chip.gated;
  pace = chip.pace;
  paced = chip.paced;
  tape = chip.tape;
}

-- the inner controller
abbrev pub behind_of : {D : Type 0} → Chip D → Sequencer D
behind_of chip = chip.behind

-- the chip with this drive in a bay
abbrev pub chip_with_drive : {D : Type 0} → ℕ → D → Chip D → Chip D
chip_with_drive bay drive chip = record chip { behind = front_with_drive bay drive chip.behind }

-- the chip with this inner controller; all else is as it was
abbrev pub with_front : Front → ChipState → ChipState
with_front front old = record old { front = front }

abbrev pub KeepsRest : ChipState → ChipState → Type 0
KeepsRest old new = new ≡ with_front new.front old

-- a new chip with these drives
pub record IsNewChip (bay0 bay1 : DriveState) (new : ChipState) : Type 0 where
  pub front : IsNewFront bay0 bay1 new.front
  pub stage : new.stage ≡ Ready
  pub order : new.order ≡ blank
  pub count : new.count ≡ 0
  pub interrupts : new.interrupts ≡ at_rest
  pub settings : new.settings ≡ at_power_up
  pub strapped : new.strapped ≡ false
  pub keys : new.keys ≡ 0
  pub gated : new.gated ≡ false
  pub pace : new.pace ≡ None
  pub paced : new.paced ≡ false
  pub tape : new.tape ≡ 0

-- all but the drives stays as it was
pub record KeepsChip (old new : ChipState) : Type 0 where
  pub front : KeepsFront old.front new.front
  pub rest : KeepsRest old new

-- ---- the lines

-- whether a READ TRACK reads a data field
abbrev pub is_data : Place → Bool
is_data Data = true
is_data _ = false

-- whether the host takes or gives the bytes of what the inner controller executes
abbrev pub passes_bytes : ChipTask → Bool
passes_bytes Sent = true
passes_bytes (Track track) = is_data track.place
passes_bytes _ = false

abbrev pub passes_at : ChipStage → Bool
passes_at (Busy task) = passes_bytes task
passes_at _ = false

-- whether the command takes or gives more bytes of the host. A FORMAT TRACK takes four for each of its sectors
abbrev pub passes : ChipState → Bool
passes chip = passes_at chip.stage && not (is_format chip.order && chip.keys == 0)

-- whether these bytes pass by the data port. Otherwise they pass by the channel, if DOR lets DRQ out
abbrev pub passes_by_port : ChipState → Bool
passes_by_port chip = is_by_port chip.settings && passes chip

abbrev pub passes_by_channel : ChipState → Bool
passes_by_channel chip = (chip.gated && not (is_by_port chip.settings)) && passes chip

-- INT of the inner controller shows while nothing is under way
abbrev pub shows_behind : ChipStage → Front → Bool
shows_behind Ready front = interrupts_outside front
shows_behind _ front = false

-- INT, if DOR lets it out. In the non-DMA mode it asks for a byte at the data port. Otherwise it says that a result is
-- there, or that a seek or poll has ended
abbrev pub interrupts_chip : ChipState → Bool
interrupts_chip chip =
    chip.gated
    && (if passes_by_port chip then asks_outside chip.front else (chip.interrupts.line || shows_behind chip.stage chip.front))

-- DRQ
abbrev pub asks_chip : ChipState → Bool
asks_chip chip = passes_by_channel chip && asks_outside chip.front

-- how many words of a track begin in its first 2 ms. One takes 16 µs at 500 kbit/s, and 32 µs at 250 kbit/s
abbrev pub index_words : Rate → ℕ
index_words R500 = 125
index_words R250 = 63

-- the place is among the first words after the index
abbrev pub is_among : ℕ → Option ℕ → Bool
is_among words None = false
is_among words (Some place) = nat_lt place words

-- INDEX of a drive: up in the first 2 ms after the index, while a medium turns at speed
abbrev pub indexes : DriveState → Bool
indexes drive = is_among (index_words (rate_of drive.medium)) (place_under drive)

-- INDEX of the drive that DOR selects. That of an absent drive is low
abbrev pub indexes_chip : ChipState → Bool
indexes_chip chip = let bay = selected_at chip.front.adapter in
    nat_le bay 1 && indexes (drive_at chip.front.adapter bay)

-- ---- MSR

-- the bits by which a byte is asked for at the data port, if one is
abbrev pub port_bits : Bool → Bool → ℕ
port_bits true to_memory = if to_memory then bit_or rqm dio else rqm
port_bits false to_memory = 0

-- the bits while a command is executed. In the non-DMA mode these are its bit too, and the request
abbrev pub execution_bits : Bool → Bool → Bool → ℕ
execution_bits true asked to_memory = bit_or (bit_or busy non_dma) (port_bits asked to_memory)
execution_bits false asked to_memory = busy

abbrev pub stage_bits : ChipStage → ChipState → ℕ
stage_bits Ready chip = bit_or (value_outside 0x3F4 chip.front) (if chip.count == 0 then 0 else busy)
stage_bits Held chip = bit_or (bit_and (value_outside 0x3F4 chip.front) 0x0F) busy
stage_bits (Busy task) chip = bit_or (bit_and (value_outside 0x3F4 chip.front) 0x0F)
    (execution_bits (is_by_port chip.settings) (passes chip && asks_outside chip.front) (to_memory_of chip.front.adapter.controller))
stage_bits (Telling answer read) chip = bit_or (bit_and (value_outside 0x3F4 chip.front) 0x0F) (bit_or (bit_or rqm dio) busy)

-- the seek bit of a drive whose pulses come in the time that SPECIFY sets
abbrev pub pace_bit : Option PacedSeek → ℕ
pace_bit None = 0
pace_bit (Some pace) = drive_bit pace.unit

-- MSR: the bits of what is under way, and the seek bits of drives whose results wait or whose pulses come
abbrev pub status_of : ChipState → ℕ
status_of chip = bit_or (bit_or (stage_bits chip.stage chip) (seek_bits chip.interrupts)) (pace_bit chip.pace)

-- ---- DOR

-- DOR as it was written
abbrev pub output_of : ChipState → ℕ
output_of chip = bit_or (bit_and (value_outside 0x3F2 chip.front) 0xF7) (if chip.gated then gate else 0)

-- ---- TDR

-- TDR: the two bits that were written. Nothing drives the other bits, which are read as 1
abbrev pub tape_of : ChipState → ℕ
tape_of chip = bit_or 0xFC chip.tape

-- what a port gives, for ports other than MSR and the data port
abbrev pub value_of : ℕ → ChipState → ℕ
value_of port chip =
    if port == 0x3F2 then output_of chip else (if port == 0x3F3 then tape_of chip else value_outside port chip.front)
