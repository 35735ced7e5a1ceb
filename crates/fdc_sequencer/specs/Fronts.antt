-- A controller with its drives and what stands in front of it, as contracts see them: their state, their lines, port
-- accesses, commands, and their side of the channel.
use Rattle.std.specs.Prelude.{◌≡◌, ℕ, ◌-◌, ◌%◌, Bool, true, false, not, ◌==◌, ◌&&◌, [], Option, Some, None, if◌then◌else◌, nat_lt}
use Rattle.fdc_sequencer.specs.Common.{bit_or, DriveState, Command, Seek, Results, Chrn, byte_out, taken_out, taken_in, told_count, to_memory_of, ReadsField, is_executing, value_read, main_status, resets, asks, interrupts, is_gated, is_idle, TakesWhole, given_up, results_waiting, Fdc}
use Rattle.fdc_registers.specs.Msr.{rqm, dio, busy}
use Rattle.fdc_commands.specs.declared.bytes.Accepted.{Accepted}
use Rattle.fdc_commands.specs.declared.bytes.Accepted.TheVariants.{Ready}
use Rattle.fdc_sequencer.specs.Adapters.{AdapterState, adapter_state, adapter_with_drive, lines_at, IsNewAdapter, WritesAdapter, Takes, Gives}
use Rattle.fdc_sequencer.specs.declared.adapter.DisketteAdapter.{DisketteAdapter}
use Rattle.fdc_sequencer.specs.Transfers.{transfer_with, command_of, size_of}
use Rattle.fdc_sequencer.specs.declared.opcode.Operation.TheVariants.{Read}
use Rattle.fdc_sequencer.specs.declared.sequencer.Sequencer.{Sequencer}
use Rattle.fdc_sequencer.specs.declared.stage.Moving.{Moving as MovingSector}
use Rattle.fdc_sequencer.specs.declared.stage.FrontStage.{FrontStage}
use Rattle.fdc_sequencer.specs.declared.stage.FrontStage.TheVariants.{Through, Seeking, Moving, Telling}
use Rattle.fdc_sequencer.specs.declared.transfer.Transfer.{Transfer}

-- the adapter, and what is done in front of it
pub record Front : Type 0 where
  pub adapter : AdapterState
  pub stage : FrontStage

abbrev pub front_state : {D : Type 0} → (D → DriveState) → Sequencer D → Front
front_state state front = record {
  adapter = adapter_state state front.adapter;
  stage = front.stage;
}

-- the adapter of the sequencer
abbrev pub adapter_of : {D : Type 0} → Sequencer D → DisketteAdapter D
adapter_of front = front.adapter

-- the sequencer with this drive in a bay
abbrev pub front_with_drive : {D : Type 0} → ℕ → D → Sequencer D → Sequencer D
front_with_drive bay drive front = record front { adapter = adapter_with_drive bay drive front.adapter }

-- a new front with these drives
pub record IsNewFront (bay0 bay1 : DriveState) (new : Front) : Type 0 where
  pub adapter : IsNewAdapter bay0 bay1 new.adapter
  pub stage : new.stage ≡ Through

-- all but the drives stays as it was
pub record KeepsFront (old new : Front) : Type 0 where
  pub controller : new.adapter.controller ≡ old.adapter.controller
  pub stage : new.stage ≡ old.stage

-- the adapter with this controller
abbrev pub with_controller : Fdc → AdapterState → AdapterState
with_controller controller old = record old { controller = controller }

-- ---- the lines outside

-- INT falls when a command of several sectors begins. It rises with the command's results, and stays up until they are
-- taken
abbrev pub interrupts_at : FrontStage → Fdc → Bool
interrupts_at Through fdc = interrupts fdc
interrupts_at (Seeking _ _) fdc = false
interrupts_at (Moving _) fdc = false
interrupts_at (Telling _) fdc = is_gated fdc

abbrev pub interrupts_outside : Front → Bool
interrupts_outside front = interrupts_at front.stage front.adapter.controller

-- DRQ is up only while bytes of the sector still have to pass
abbrev pub asks_at : FrontStage → Fdc → Bool
asks_at Through fdc = asks fdc
asks_at (Moving moving) fdc = nat_lt 0 moving.left && asks fdc
asks_at _ fdc = false

abbrev pub asks_outside : Front → Bool
asks_outside front = asks_at front.stage front.adapter.controller

-- ---- what is under way

-- each access is the controller's: no command of several sectors is under way, or has results
abbrev pub is_through : FrontStage → Bool
is_through Through = true
is_through _ = false

-- moreover the controller takes commands
abbrev pub is_ready_at : FrontStage → Fdc → Bool
is_ready_at Through fdc = is_idle fdc
is_ready_at _ fdc = false

abbrev pub is_ready : Front → Bool
is_ready front = is_ready_at front.stage front.adapter.controller

-- ---- reads of a port

-- the seek bit of a command's drive
abbrev pub drive_bit : ℕ → ℕ
drive_bit head_drive =
    if head_drive % 4 == 0 then 1 else (if head_drive % 4 == 1 then 2 else (if head_drive % 4 == 2 then 4 else 8))

-- the seek bit of the drive whose heads an implied seek moves. No other seek bit shows during a command of several
-- sectors
abbrev pub seeking_bit : FrontStage → ℕ
seeking_bit (Seeking transfer _) = drive_bit transfer.head_drive
seeking_bit _ = 0

-- MSR: busy during a command of several sectors
abbrev pub status_at : FrontStage → Fdc → ℕ
status_at Through fdc = main_status fdc
status_at (Seeking transfer _) fdc = bit_or busy (drive_bit transfer.head_drive)
status_at (Moving _) fdc = busy
status_at (Telling _) fdc = bit_or (bit_or rqm dio) busy

-- what a port gives. Nothing comes from the data port, which is the port of a layer in front
abbrev pub value_outside : ℕ → Front → ℕ
value_outside port front =
    if port == 0x3F4 then status_at front.stage front.adapter.controller else (
    if port == 0x3F5 then 0xFF else
    value_read port (lines_at front.adapter) front.adapter.controller)

-- ---- results

-- the results of a data command, once it has ended
abbrev pub results_at : FrontStage → Fdc → Option Results
results_at Through fdc = results_waiting fdc
results_at (Telling results) fdc = Some results
results_at _ fdc = None

abbrev pub results_outside : Front → Option Results
results_outside front = results_at front.stage front.adapter.controller

-- the front after these results were taken
abbrev pub taken_at : FrontStage → Front → Front
taken_at Through old = record old { adapter = with_controller (given_up old.adapter.controller) old.adapter }
taken_at (Telling _) old = record old { stage = Through }
taken_at _ old = old

abbrev pub results_taken : Front → Front
results_taken old = taken_at old.stage old

-- ---- a command begins

-- the controller does what the bytes of a command came to
pub record TakesAdapter (accepted : Accepted) (old new : AdapterState) : Type 0 where
  pub takes : TakesWhole accepted (lines_at old) old.controller new.controller
  pub first : new.first ≡ old.first
  pub second : new.second ≡ old.second

-- the controller is given the terminal count, if it came
abbrev pub told_if : Bool → AdapterState → AdapterState
told_if true old = with_controller (told_count old.controller) old
told_if false old = old

-- a sector of which no byte has passed
abbrev pub moving_of : Transfer → Bool → Bool → MovingSector
moving_of transfer counted passed_over =
    record { transfer = transfer; left = size_of transfer.key.n; counted = counted; passed_over = passed_over; skipped = false }

-- the controller executes its own command for the sector. Otherwise the host reads what the controller answers
abbrev pub begun_if : Bool → Transfer → Bool → Bool → AdapterState → Front → Front
begun_if true transfer counted passed_over between old =
    record old { adapter = told_if counted between; stage = Moving (moving_of transfer counted passed_over) }
begun_if false transfer counted passed_over between old = record old { adapter = between; stage = Through }

-- the controller's own command for a sector begins
pub record BeginsSector (transfer : Transfer) (counted passed_over : Bool) (old new : Front) : Type 0 where
  pub between : AdapterState
  pub takes : TakesAdapter (Ready (command_of transfer)) old.adapter between
  pub begun : new ≡ begun_if (is_executing between.controller.phase) transfer counted passed_over between old

-- the heads go to the command's cylinder. Otherwise the host reads what the controller answers
pub record SeeksFirst (transfer : Transfer) (old new : Front) : Type 0 where
  pub between : AdapterState
  pub takes : TakesAdapter (Ready (Seek transfer.head_drive transfer.key.c)) old.adapter between
  pub begun : new ≡ record old { adapter = between; stage = if is_idle between.controller then Seeking transfer false else Through }

abbrev pub StartsIf : Bool → Transfer → Front → Front → Type 0
StartsIf true transfer old new = SeeksFirst transfer old new
StartsIf false transfer old new = BeginsSector transfer false false old new

-- a READ DATA of this sector alone
abbrev pub sector_alone : ℕ → Chrn → Transfer
sector_alone head_drive key = transfer_with false (record { operation = Read false false; multitrack = false }) head_drive key key.r 0 0

-- the controller reads a sector whose address field has just passed
pub record ReadsAdapter (transfer : Transfer) (old new : AdapterState) : Type 0 where
  pub reads : ReadsField (record { head_drive = transfer.head_drive; key = transfer.key; last_sector = transfer.last_sector }) old.controller new.controller
  pub first : new.first ≡ old.first
  pub second : new.second ≡ old.second

-- such a sector is moved from now on
pub record ReadsSector (transfer : Transfer) (old new : Front) : Type 0 where
  pub between : AdapterState
  pub reads : ReadsAdapter transfer old.adapter between
  pub begun : new ≡ record old { adapter = between; stage = Moving (moving_of transfer false false) }

-- a command of several sectors starts, with a seek if a seek is implied for it
abbrev pub Starts : Transfer → Front → Front → Type 0
Starts transfer old new = StartsIf transfer.seeks transfer old new

-- a command is given to the controller itself
pub record Commands (command : Command) (old new : Front) : Type 0 where
  pub between : AdapterState
  pub takes : TakesAdapter (Ready command) old.adapter between
  pub after : new ≡ record old { adapter = between }

-- a command is given to the controller, if the controller takes one
abbrev pub CommandsIf : Bool → Command → Front → Front → Type 0
CommandsIf true command old new = Commands command old new
CommandsIf false command old new = new ≡ old

abbrev pub GivesCommand : Command → Front → Front → Type 0
GivesCommand command old new = CommandsIf (is_ready old) command old new

-- a command of several sectors is given, if one may start
abbrev pub TransfersIf : Bool → Transfer → Front → Front → Type 0
TransfersIf true transfer old new = Starts transfer old new
TransfersIf false transfer old new = new ≡ old

abbrev pub GivesTransfer : Transfer → Front → Front → Type 0
GivesTransfer transfer old new = TransfersIf (is_ready old) transfer old new

-- ---- writes of a port

-- a reset ends what is done in front
abbrev pub reset_if : Bool → Front → Front
reset_if true old = record old { stage = Through }
reset_if false old = old

-- a byte is written to a port. The data port is the port of a layer in front
pub record WritesFront (port value : ℕ) (old new : Front) : Type 0 where
  pub bytes : port ≡ 0x3F5 → new ≡ old
  pub others : (port == 0x3F5) ≡ false → WritesAdapter port value old.adapter new.adapter × (new ≡ record (reset_if (resets port value) old) { adapter = new.adapter })

-- ---- the channel

-- a byte of the sector passed. After the last byte the controller is given the terminal count
abbrev pub passed_one : MovingSector → Fdc → Front → Front
passed_one moving controller old = record old {
  adapter = with_controller (if moving.left - 1 == 0 then told_count controller else controller) old.adapter;
  stage = Moving (record moving { left = moving.left - 1 });
}

abbrev pub TakesMoving : MovingSector → Front → Option ℕ → Front → Type 0
TakesMoving moving old (Some byte) new = let fdc = old.adapter.controller in
    ((nat_lt 0 moving.left && (asks fdc && to_memory_of fdc)) ≡ true) × (byte ≡ byte_out fdc) × (new ≡ passed_one moving (taken_out fdc) old)
TakesMoving moving old None new = let fdc = old.adapter.controller in
    ((nat_lt 0 moving.left && (asks fdc && to_memory_of fdc)) ≡ false) × (new ≡ old)

-- the channel takes a byte, if one is asked for in this direction
abbrev pub TakesAt : FrontStage → Front → Option ℕ → Front → Type 0
TakesAt Through old byte new = Takes old.adapter.controller byte new.adapter.controller × (new ≡ record old { adapter = with_controller new.adapter.controller old.adapter })
TakesAt (Moving moving) old byte new = TakesMoving moving old byte new
TakesAt _ old byte new = (byte ≡ None) × (new ≡ old)

abbrev pub TakesFront : Front → Option ℕ → Front → Type 0
TakesFront old byte new = TakesAt old.stage old byte new

abbrev pub GivesMoving : MovingSector → ℕ → Front → Bool → Front → Type 0
GivesMoving moving byte old true new = let fdc = old.adapter.controller in
    ((nat_lt 0 moving.left && (asks fdc && not (to_memory_of fdc))) ≡ true) × (new ≡ passed_one moving (taken_in byte fdc) old)
GivesMoving moving byte old false new = let fdc = old.adapter.controller in
    ((nat_lt 0 moving.left && (asks fdc && not (to_memory_of fdc))) ≡ false) × (new ≡ old)

-- the channel gives a byte, if one is asked for in this direction
abbrev pub GivesAt : FrontStage → ℕ → Front → Bool → Front → Type 0
GivesAt Through byte old was new = Gives byte old.adapter.controller was new.adapter.controller × (new ≡ record old { adapter = with_controller new.adapter.controller old.adapter })
GivesAt (Moving moving) byte old was new = GivesMoving moving byte old was new
GivesAt _ byte old was new = (was ≡ false) × (new ≡ old)

abbrev pub GivesFront : ℕ → Front → Bool → Front → Type 0
GivesFront byte old was new = GivesAt old.stage byte old was new

-- the terminal count comes: the command ends after its sector
abbrev pub count_told : FrontStage → Front → Front
count_told Through old = record old { adapter = told_if true old.adapter }
count_told (Seeking transfer _) old = record old { stage = Seeking transfer true }
count_told (Moving moving) old = record old { adapter = told_if true old.adapter; stage = Moving (record moving { counted = true }) }
count_told _ old = old

abbrev pub told_front : Front → Front
told_front old = count_told old.stage old
