-- The machine as contracts see it: a board of chips, with a drive in each bay.
use Rattle.std.specs.Prelude.{◌≡◌, ℕ, true, false, ◌==◌, if◌then◌else◌, List, None}
use Rattle.pc_bus.specs.Common.{zeroes, DriveState, InRange, with_motor, Channel, power_up, Latch, AreShort, Holds, Low, at_power_up, Fdc, Lines}
use Rattle.irq_events.specs.declared.pace.Pace.{Pace}
use Rattle.fdc_core.specs.Ranges.{IsInRange as IsFdcInRange}
use Rattle.fdc_core.specs.Drives.Lines.{lines_of_selected, selected_by}
use Rattle.pc_bus.specs.declared.bus.Bus.{Bus}
use Rattle.pc_bus.specs.declared.machine.MachineOf.{MachineOf}

-- the chips, and the states of both drives
pub record Board : Type 0 where
  pub bus : Bus
  pub first : DriveState
  pub second : DriveState

-- the board of a machine whose drives have these states
abbrev pub board : {D : Type 0} → (D → DriveState) → MachineOf D → Board
board state machine =
    record { bus = machine.bus; first = state machine.first; second = state machine.second }

abbrev pub controller_of : Board → Fdc
controller_of board = board.bus.chips.controller

abbrev pub channel_of : Board → Channel
channel_of board = board.bus.chips.channel

-- the bytes of memory, the first at address 0
abbrev pub memory_of : Board → List ℕ
memory_of board = board.bus.chips.memory

-- the DMA request, the DMA latencies (holds) that are left, and the count of late DMA (stalls)
abbrev pub holds_of : Board → Holds
holds_of board = board.bus.chips.holding

abbrev pub latch_of : Board → Latch
latch_of board = board.bus.latch

-- the drive in a bay: the first one in bay 0, the second one in bay 1
abbrev pub drive_in : Board → ℕ → DriveState
drive_in board bay = if bay == 0 then board.first else board.second

-- the number of the drive that DOR selects; the drives of bays 2 and 3 are absent
abbrev pub selected_of : Board → ℕ
selected_of board = selected_by (controller_of board)

-- a drive with no medium in and its change line set
pub record IsEmpty (drive : DriveState) : Type 0 where
  pub medium : drive.medium ≡ None
  pub change : drive.change ≡ true

-- if no medium is in the drive, its change line is set
abbrev pub IsSetIfEmpty : DriveState → Type 0
IsSetIfEmpty drive = drive.medium ≡ None → drive.change ≡ true

-- this holds of both drives
pub record AreSetIfEmpty (board : Board) : Type 0 where
  pub first : IsSetIfEmpty board.first
  pub second : IsSetIfEmpty board.second

-- the chips of a new machine: the controller in reset, memory all 00, nothing counted
abbrev pub new_bus : Pace → Bus
new_bus pace = record {
  chips = record {
    controller = at_power_up;
    channel = power_up;
    memory = zeroes 1048576;
    holding = record { entries = pace.holds.items; request = Low; stalls = 0 };
  };
  latch = record { is_set = false; level = false };
  gaps = pace.gaps.items;
  strays = pace.strays.items;
  steps = 0;
  direct = 0;
  taken = 0;
  fresh = true;
}

-- a new machine with these drives, whose motors the controller has turned off
pub record IsNew (pace : Pace) (bay0 bay1 : DriveState) (new : Board) : Type 0 where
  pub bus : new.bus ≡ new_bus pace
  pub first : new.first ≡ with_motor false bay0
  pub second : new.second ≡ with_motor false bay1

-- the numbers in the drives, in the controller and in the DMA latencies are in range
pub record IsInRange (board : Board) : Type 0 where
  pub first : InRange board.first
  pub second : InRange board.second
  pub controller : IsFdcInRange (controller_of board)
  pub holds : AreShort (holds_of board)

-- the lines of the selected drive
abbrev pub lines_of : Board → Lines
lines_of board = lines_of_selected (selected_of board) board.first board.second
