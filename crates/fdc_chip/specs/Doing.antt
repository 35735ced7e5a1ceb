-- What a whole command does.
use Rattle.std.specs.Prelude.{◌≡◌, ℕ, zero, suc, ◌+◌, ◌-◌, ◌*◌, ◌%◌, Bool, true, false, not, ◌==◌, ◌&&◌, ◌||◌, Option, Some, None, is_none, is_some, if◌then◌else◌, nat_le, bit_and, min}
use Rattle.fdc_chip.specs.Common.{bit_or, Chrn, lines_at, Front, GivesCommand, GivesTransfer, value_outside, pending_outside, sensed_outside, seek_end, size_of, transfer_with}
use Rattle.fdc_commands.specs.declared.command.Command.{Command}
use Rattle.fdc_commands.specs.declared.command.Command.TheVariants as command
use Rattle.fdc_core.specs.Commands.{status_of_lines}
use Rattle.fdc_sequencer.specs.Opcodes.{opcode_of}
use Rattle.fdc_sequencer.specs.declared.transfer.Transfer.{Transfer}
use Rattle.fdc_chip.specs.Chips.{ChipState, with_front, KeepsRest}
use Rattle.fdc_chip.specs.Codes.{has_bit}
use Rattle.fdc_chip.specs.Interrupts.{with_result, without_results_of, sensed, after_sense, cylinder_of, with_cylinder}
use Rattle.fdc_chip.specs.Settings.{implies_seeks, perpendicular_set}
use Rattle.fdc_chip.specs.declared.answer.ChipAnswer.{ChipAnswer}
use Rattle.fdc_chip.specs.declared.answer.ChipAnswer.TheVariants as answer
use Rattle.fdc_chip.specs.declared.code.ChipOpcode.{ChipOpcode}
use Rattle.fdc_chip.specs.declared.code.ChipOpcode.TheVariants.{ReadTrack, Specify, SenseDrive, Transfer as TransferCode, Recalibrate, SenseInterrupt, ReadId, FormatTrack, DumpRegisters, Seek, RelativeSeek, Version, Perpendicular, Configure, Lock, Verify}
use Rattle.fdc_chip.specs.declared.order.Order.{Order}
use Rattle.fdc_chip.specs.declared.pace.PacedSeek.{PacedSeek}
use Rattle.fdc_chip.specs.declared.stage.Place.TheVariants.{Index}
use Rattle.fdc_chip.specs.declared.stage.ChipStage.TheVariants.{Ready, Held, Busy, Telling}
use Rattle.fdc_chip.specs.declared.stage.ChipTask.{ChipTask}
use Rattle.fdc_chip.specs.declared.stage.ChipTask.TheVariants as task
use Rattle.fdc_chip.specs.declared.stage.Track.{Track}

-- ---- the inner controller

-- the inner controller is given a command, if it takes one. Nothing else changes
abbrev pub GivesOn : Command → ChipState → ChipState → Type 0
GivesOn command old new = GivesCommand command old.front new.front × KeepsRest old new

-- whether a result is reported to the host. While pulses come in the time that SPECIFY sets, the result of the poll is
-- reported, and the result of a single pulse isn't
abbrev pub is_told : Option PacedSeek → ℕ → Bool
is_told pace status = (bit_and status seek_end == 0) || is_none pace

-- the chip takes over a pending result of a seek or poll from the inner controller. If the result is to be reported,
-- INT rises
abbrev pub kept : Option (ℕ × ℕ) → ChipState → ChipState
kept None old = old
kept (Some (status, cylinder)) old =
    if is_told old.pace status then record old { interrupts = with_result status cylinder old.interrupts } else old

abbrev pub drained_one : ChipState → ChipState
drained_one old = kept (pending_outside old.front) (with_front (sensed_outside old.front) old)

-- this many results are taken over
unfoldable pub drained_by : ℕ → ChipState → ChipState
drained_by zero old = old
drained_by (suc n) old = drained_one (drained_by n old)

-- all results are taken over, of which each drive has at most one
abbrev pub drained : ChipState → ChipState
drained old = drained_by 4 old

-- heads move: a seek bit of the inner controller is set
abbrev pub moves_heads : Front → Bool
moves_heads front = not (bit_and (value_outside 0x3F4 front) 0x0F == 0)

-- heads move, or pulses are to come in the time that SPECIFY sets
abbrev pub is_moving : ChipState → Bool
is_moving chip = is_some chip.pace || moves_heads chip.front

-- ---- answers

-- the host reads this answer
abbrev pub told : ChipAnswer → ChipState → ChipState
told answer old = record old { stage = Telling answer 0 }

abbrev pub told_byte : ℕ → ChipState → ChipState
told_byte byte old = told (answer.Byte byte) old

-- the controller is ready for the next command
abbrev pub ready : ChipState → ChipState
ready old = record old { stage = Ready }

-- SENSE INTERRUPT gives the result of the lowest drive that has one, or 80 if none is pending
abbrev pub answer_sensed : Option (ℕ × ℕ) → ChipAnswer
answer_sensed None = answer.Byte 0x80
answer_sensed (Some (status, cylinder)) = answer.Sensed status cylinder

abbrev pub sensing : ChipState → ChipState
sensing old = told (answer_sensed (sensed old.interrupts)) (record old { interrupts = after_sense old.interrupts })

-- SPECIFY
abbrev pub specified : ChipState → ChipState
specified old =
    ready (record old { settings = record old.settings { step_rate = old.order.unit; head_load = old.order.key.c } })

-- CONFIGURE. The inner controller knows no EIS: the chip says for each command whether a seek is implied
abbrev pub configured : ChipState → ChipState
configured old =
    ready (record old { settings = record old.settings { options = old.order.key.c; precompensation = old.order.key.h; forgotten = false } })

abbrev pub configuring : ℕ → ℕ → Command
configuring options precompensation = command.Configure 0 (bit_and options 0x3F) precompensation

-- DUMPREG
abbrev pub dumped : ChipState → ChipState
dumped old = told (answer.Registers (record {
  first = cylinder_of 0 old.interrupts;
  second = cylinder_of 1 old.interrupts;
  third = cylinder_of 2 old.interrupts;
  fourth = cylinder_of 3 old.interrupts;
  settings = old.settings;
})) old

-- LOCK answers with its bit
abbrev pub locked : Bool → ChipState → ChipState
locked on old =
    told_byte (if on then 0x10 else 0) (record old { settings = record old.settings { locked = on } })

-- PERPENDICULAR MODE
abbrev pub made_perpendicular : ChipState → ChipState
made_perpendicular old = ready (record old { settings = perpendicular_set old.order.unit old.settings })

-- the cylinder to which a RELATIVE SEEK goes. It is at least 0 and at most 255
abbrev pub relative_target : Bool → ℕ → ℕ → ℕ
relative_target true cylinder count = min (cylinder + count) 255
relative_target false cylinder count = cylinder - count

-- SENSE DRIVE answers with ST3
abbrev pub drive_sensed : ChipState → ChipState
drive_sensed old = told_byte (status_of_lines (lines_at old.front.adapter) old.order.unit) old

-- ---- seeks

-- a RECALIBRATE, or a SEEK of a cylinder
abbrev pub moving : ℕ → Option ℕ → Command
moving unit None = command.Recalibrate unit
moving unit (Some target) = command.Seek unit target

-- a seek begins at the cylinder number that the controller counts. The first pulse comes at once, and a RECALIBRATE
-- gives at most 79
abbrev pub pace_begun : ℕ → ℕ → Option ℕ → PacedSeek
pace_begun unit cylinder goal = record { unit = unit; cylinder = cylinder; goal = goal; left = 79; wait = 0 }

-- the pulses of the seek come in the time that SPECIFY sets, or the inner controller is given the seek
abbrev pub MovesIf : Bool → Option ℕ → ChipState → ChipState → Type 0
MovesIf true goal old new = let unit = old.order.unit in
    new ≡ record (ready old) { pace = Some (pace_begun unit (cylinder_of unit old.interrupts) goal) }
MovesIf false goal old new = GivesOn (moving old.order.unit goal) (ready old) new

abbrev pub Moves : Option ℕ → ChipState → ChipState → Type 0
Moves goal old new = MovesIf old.paced goal old new

-- ---- data commands

-- DUMPREG gives EOT of a data command, or the number of sectors of a FORMAT TRACK
abbrev pub with_last : ℕ → ChipState → ChipState
with_last last_sector old = record old { settings = record old.settings { last_sector = last_sector } }

-- whether the strap or EIS implies seeks
abbrev pub implies : ChipState → Bool
implies chip = chip.strapped || implies_seeks chip.settings

-- if a seek is implied, the heads go to the command's cylinder
abbrev pub sought_if : Bool → ChipState → ChipState
sought_if true old = record old { interrupts = with_cylinder old.order.unit old.order.key.c old.interrupts }
sought_if false old = old

-- a command of this task begins: INT falls, and the pending result of its drive is dropped
abbrev pub begun : ChipTask → ChipState → ChipState
begun task old = record old {
  stage = Busy task;
  interrupts = without_results_of old.order.unit old.interrupts;
}

-- after a reset, the inner controller is given again what LOCK kept
abbrev pub RemembersIf : Bool → ChipState → ChipState → Type 0
RemembersIf true old new =
    GivesOn (configuring old.settings.options old.settings.precompensation) (record old { settings = record old.settings { forgotten = false } }) new
RemembersIf false old new = new ≡ old

abbrev pub Remembers : ChipState → ChipState → Type 0
Remembers old new = RemembersIf old.settings.forgotten old new

-- a command of this task begins, before the inner controller is given anything for it
abbrev pub Opens : ChipTask → ChipState → ChipState → Type 0
Opens task old new = Remembers (begun task old) new

-- a command of this task begins, and the inner controller is given something
pub record Begins (task : ChipTask) (Gives : Front → Front → Type 0) (old new : ChipState) : Type 0 where
  pub set : ChipState
  pub opens : Opens task old set
  pub gives : Gives set.front new.front
  pub rest : KeepsRest set new

-- the READ ID of a unit
abbrev pub identifying : ℕ → Command
identifying unit = command.ReadId unit

-- a command that this medium can't have: the inner controller looks for an address mark instead
abbrev pub Refuses : Chrn → Bool → ChipState → ChipState → Type 0
Refuses key mfm old new =
    Begins (task.Refused old.order.unit key mfm) (GivesCommand (identifying old.order.unit)) old new

abbrev pub no_key : Chrn
no_key = record { c = 0; h = 0; r = 0; n = 0 }

-- whether a field of this medium can have this size code
abbrev pub is_size : ℕ → Bool
is_size n = nat_le 1 n && nat_le n 6

abbrev pub BeginsReadId : Bool → ChipState → ChipState → Type 0
BeginsReadId true old new = Begins task.Sent (GivesCommand (identifying old.order.unit)) old new
BeginsReadId false old new = Refuses no_key false old new

-- the FORMAT TRACK of an order, whose third byte is the size code. The number of sectors, gap 3 and the fill byte follow
abbrev pub formatting : Order → Command
formatting order = command.FormatTrack order.unit order.key.c order.key.h order.key.r order.key.n

abbrev pub FormatsIf : Bool → Bool → ChipState → ChipState → Type 0
FormatsIf true mfm old new = Begins task.Sent (GivesCommand (formatting old.order)) old new
FormatsIf false mfm old new = Refuses no_key mfm old new

-- a FORMAT TRACK takes four bytes for each of its sectors
abbrev pub with_keys : ℕ → ChipState → ChipState
with_keys sectors old = record old { keys = 4 * sectors }

-- a FORMAT TRACK. Its third byte is the size code, and its fourth the number of sectors
abbrev pub Formats : Bool → ChipState → ChipState → Type 0
Formats mfm old new =
    FormatsIf (mfm && is_size old.order.key.c) mfm (with_keys old.order.key.h (with_last old.order.key.h old)) new

-- the command of several sectors that an order spells. The Bool says whether the heads go to its cylinder first
abbrev pub transfer_sent : Bool → Order → Transfer
transfer_sent seeks order = transfer_with seeks (opcode_of order.code) order.unit order.key order.last_sector order.gap order.length

-- a command of sectors, which this medium can have or can't. The inner controller is given that of another order
abbrev pub TransfersIf : Bool → Bool → ChipTask → Order → ChipState → ChipState → Type 0
TransfersIf true mfm what order old new =
    Begins what (GivesTransfer (transfer_sent (implies old) order)) (sought_if (implies old) old) new
TransfersIf false mfm what order old new = Refuses old.order.key mfm old new

abbrev pub Transfers : Bool → ChipTask → Order → ChipState → ChipState → Type 0
Transfers mfm what order old new =
    TransfersIf (mfm && is_size old.order.key.n) mfm what order (with_last old.order.last_sector old) new

-- ---- VERIFY

-- how many sectors a track has from this one on, up to the last. The count goes on after the number 255 with 0
abbrev pub sectors_to : ℕ → ℕ → ℕ
sectors_to last r = (last + 256 - r) % 256 + 1

-- how many sectors a VERIFY verifies. If it counts its sectors, it is that number, where 0 is 256. Otherwise it is all
-- up to the last, with MT on both heads
abbrev pub sectors_verified : Order → ℕ
sectors_verified order =
    if has_bit order.unit 0x80 then (if order.length == 0 then 256 else order.length)
    else (if has_bit order.code 0x80 && not (has_bit order.unit 0x04) then sectors_to order.last_sector order.key.r + sectors_to order.last_sector 1
    else sectors_to order.last_sector order.key.r)

-- the READ DATA that the inner controller executes for a VERIFY. It has MT and SK as they were sent
abbrev pub verifying : Order → Order
verifying order = record order { code = bit_or 0x46 (bit_and order.code 0xA0); unit = bit_and order.unit 0x07 }

abbrev pub Verifies : Bool → ChipState → ChipState → Type 0
Verifies mfm old new =
    Transfers mfm (task.Verify (sectors_verified old.order * size_of old.order.key.n)) (verifying old.order) old new

-- ---- READ TRACK

-- how many sectors a READ TRACK reads, where 0 is 256
abbrev pub sectors_of_track : Order → ℕ
sectors_of_track order = if order.last_sector == 0 then 256 else order.last_sector

-- a READ TRACK begins. All its sectors are left. The Bool says whether the heads go to its cylinder first
abbrev pub track_begun : Bool → Order → Track
track_begun seeks order = record {
  unit = order.unit;
  key = order.key;
  left = sectors_of_track order;
  place = Index;
  counted = false;
  met = false;
  seeks = seeks;
  st1 = record { 0 = 0 };
  st2 = record { 0 = 0 };
}

-- the READ DATA of one sector, in place of a READ TRACK
abbrev pub reading_one : Chrn → Order → Order
reading_one key order = record order { code = 0x46; key = key; last_sector = key.r }

-- a sector ID that no track is expected to have. The search for it ends with the index pulse
abbrev pub absent_key : ℕ → Chrn
absent_key c = record { c = c; h = 0xFF; r = 0xFF; n = 6 }

abbrev pub ReadsTrack : Bool → ChipState → ChipState → Type 0
ReadsTrack mfm old new = let order = old.order in
    Transfers mfm (task.Track (track_begun (implies old) order)) (reading_one (absent_key order.key.c) order) old new

-- ---- all commands

abbrev pub Obeys : ChipOpcode → ChipState → ChipState → Type 0
Obeys Specify old new = new ≡ specified old
Obeys SenseDrive old new = new ≡ drive_sensed old
Obeys SenseInterrupt old new = new ≡ sensing old
Obeys Recalibrate old new = Moves None old new
Obeys Seek old new = Moves (Some old.order.key.c) old new
Obeys (RelativeSeek inward) old new =
    Moves (Some (relative_target inward (cylinder_of old.order.unit old.interrupts) old.order.key.c)) old new
Obeys Version old new = new ≡ told_byte 0x90 old
Obeys Perpendicular old new = new ≡ made_perpendicular old
Obeys Configure old new = GivesOn (configuring old.order.key.c old.order.key.h) (configured old) new
Obeys DumpRegisters old new = new ≡ dumped old
Obeys (Lock on) old new = new ≡ locked on old
Obeys (ReadId mfm) old new = BeginsReadId mfm old new
Obeys (FormatTrack mfm) old new = Formats mfm old new
Obeys (TransferCode mfm) old new = Transfers mfm task.Sent old.order old new
Obeys (Verify mfm) old new = Verifies mfm old new
Obeys (ReadTrack mfm) old new = ReadsTrack mfm old new

-- whether the command needs the inner controller. If it doesn't, it is done at once, even while heads move
abbrev pub needs_heads : ChipOpcode → Bool
needs_heads Specify = false
needs_heads SenseInterrupt = false
needs_heads Version = false
needs_heads Perpendicular = false
needs_heads DumpRegisters = false
needs_heads (Lock _) = false
needs_heads _ = true

abbrev pub AttendsIf : Bool → ChipOpcode → ChipState → ChipState → Type 0
AttendsIf true code old new = new ≡ record old { stage = Held }
AttendsIf false code old new = Obeys code old new

-- a whole command is done, or is held while heads move
abbrev pub Attends : ChipOpcode → ChipState → ChipState → Type 0
Attends code old new = AttendsIf (needs_heads code && is_moving (drained old)) code (drained old) new

-- a whole command is done by its code. If there is no such code, the answer is 80
abbrev pub AttendsTo : Option ChipOpcode → ChipState → ChipState → Type 0
AttendsTo None old new = new ≡ told_byte 0x80 old
AttendsTo (Some code) old new = Attends code old new
