-- Bytes between the controller and memory, through DMA channel 2.
use Rattle.std.specs.Prelude.{ℕ, zero, suc, Bool, true, false, ◌&&◌, ◌==◌, if◌then◌else◌, List, slice_index, slice_set}
use Rattle.pc_bus.specs.Common.{Channel, grants, after_transfer, place_of, writes_memory, reads_memory, byte_out, taken_out, taken_in, told_count, to_memory_of, asks, Fdc, looked, shown, is_due}
use Rattle.pc_bus.specs.declared.chips.Chips.{Chips}

-- the byte of memory that the channel gives; it is FF if the channel isn't set to read memory
abbrev pub byte_read : Channel → List ℕ → ℕ
byte_read channel memory = if reads_memory channel then slice_index memory (place_of channel) else 0xFF

-- memory after the channel put a byte in; it is unchanged if the channel isn't set to write memory
abbrev pub memory_after : Channel → ℕ → List ℕ → List ℕ
memory_after channel byte memory = if writes_memory channel then slice_set memory (place_of channel) byte else memory

-- the controller requests a byte, and the channel grants the request
abbrev pub can_move : Chips → Bool
can_move chips = asks chips.controller && grants chips.channel

-- the controller is told TC with the last byte
abbrev pub told_if : Bool → Fdc → Fdc
told_if true controller = told_count controller
told_if false controller = controller

-- one byte went to memory
abbrev pub moved_to_memory : Chips → Chips
moved_to_memory old = record old {
  controller = told_if (old.channel.count == 0) (taken_out old.controller);
  channel = after_transfer old.channel;
  memory = memory_after old.channel (byte_out old.controller) old.memory;
}

-- one byte came from memory
abbrev pub moved_from_memory : Chips → Chips
moved_from_memory old = record old {
  controller = told_if (old.channel.count == 0) (taken_in (byte_read old.channel old.memory) old.controller);
  channel = after_transfer old.channel;
}

-- one byte was moved
unfoldable pub moved : Chips → Chips
moved old = if to_memory_of old.controller then moved_to_memory old else moved_from_memory old

-- Bytes were moved until the controller requests none or the channel doesn't grant, and at most this many.
unfoldable pub moved_up_to : ℕ → Chips → Chips
moved_up_to zero old = old
moved_up_to (suc most) old = if can_move old then moved_up_to most (moved old) else old

-- the request is looked at in a device step
abbrev pub looked_at : Chips → Chips
looked_at old = record old { holding = looked (asks old.controller) old.holding }

-- the request is shown as it is after an access or a transfer
abbrev pub shown_again : Chips → Chips
shown_again old = record old { holding = shown (asks old.controller) old.holding }

-- A request that is due is granted if the channel grants it. It then moves bytes until it falls, and at most 16.
unfoldable pub granted : Chips → Chips
granted old = if grants old.channel then shown_again (moved_up_to 16 old) else old

-- the part of a device step that moves bytes
unfoldable pub dma_stepped : Chips → Chips
dma_stepped old = if is_due (looked_at old).holding.request then granted (looked_at old) else looked_at old
