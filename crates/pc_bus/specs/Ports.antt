-- Port accesses of the machine.
use Rattle.std.specs.Prelude.{◌≡◌, ℕ, Bool, true, false, ◌&&◌, nat_le, if◌then◌else◌}
use Rattle.pc_bus.specs.Common.{after_write, after_read, value_read, Fdc, Lines, FollowsWrite, next_entry, rest_of}
use Rattle.fdc_core.specs.Ports.{Writes, value_read as controller_value, after_read as controller_after}
use Rattle.pc_bus.specs.Boards.{Board, lines_of}
use Rattle.pc_bus.specs.Steps.{Runs}
use Rattle.pc_bus.specs.Transfers.{shown_again}
use Rattle.pc_bus.specs.declared.chips.Chips.{Chips}

-- The ports 3F0 to 3F7 belong to the controller. All others go to the DMA channel, which knows its own ports.
abbrev pub is_controllers : ℕ → Bool
is_controllers port = nat_le 0x3F0 port && nat_le port 0x3F7

-- ---- reading

-- the value that a read of a port gives; it is FF if nothing answers
abbrev pub port_value : ℕ → Lines → Chips → ℕ
port_value port lines chips =
    if is_controllers port then controller_value port lines chips.controller else value_read port chips.channel

-- the chips after a read of a port
abbrev pub port_read : ℕ → Chips → Chips
port_read port old =
    if is_controllers port then shown_again (record old { controller = controller_after port old.controller })
    else record old { channel = after_read port old.channel }

-- ---- writing

-- a byte is written to a port
pub record WritesChips (port value : ℕ) (lines : Lines) (old new : Chips) : Type 0 where
  pub controllers : is_controllers port ≡ true
      → (controller : Fdc) × Writes port value lines old.controller controller
      × (new ≡ shown_again (record old { controller = controller }))
  pub channels : is_controllers port ≡ false → new ≡ record old { channel = after_write port value old.channel }

-- both drives follow the write, whichever drive DOR selects
pub record SetsLines (port value : ℕ) (controller : Fdc) (old new : Board) : Type 0 where
  pub first : FollowsWrite port value 0 controller old.first new.first
  pub second : FollowsWrite port value 1 controller old.second new.second

-- a byte is written to a port of the machine
pub record WritesPort (port value : ℕ) (old new : Board) : Type 0 where
  pub chips : Chips
  pub writes : WritesChips port value (lines_of old) old.bus.chips chips
  pub bus : new.bus ≡ record old.bus { chips = chips; fresh = false }
  pub lines : SetsLines port value chips.controller old new

-- ---- the gap after an access

-- as many device steps pass as the next gap has
pub record RunsGap (old new : Board) : Type 0 where
  pub runs : Runs (next_entry old.bus.gaps) (record old { bus = record old.bus { gaps = rest_of old.bus.gaps } }) new

-- a port is read, and then the device steps of the gap pass
pub record Inputs (port : ℕ) (old : Board) (value : ℕ) (new : Board) : Type 0 where
  pub value_is : value ≡ port_value port (lines_of old) old.bus.chips
  pub gap : RunsGap (record old { bus = record old.bus { chips = port_read port old.bus.chips; fresh = false } }) new

-- a port is written, and then the device steps of the gap pass
pub record Outputs (port value : ℕ) (old new : Board) : Type 0 where
  pub between : Board
  pub writes : WritesPort port value old between
  pub gap : RunsGap between new
