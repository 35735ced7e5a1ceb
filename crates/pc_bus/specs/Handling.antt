-- Calls past the controller: to memory, to media, to drives, and to the latch.
use Rattle.std.specs.Prelude.{◌≡◌, ℕ, ◌-◌, false, nat_lt, if◌then◌else◌, slice_set}
use Rattle.pc_bus.specs.Common.{user_bytes, counted}
use Rattle.pc_bus.specs.Boards.{Board, drive_in}
use Rattle.pc_bus.specs.declared.bus.Bus.{Bus}

-- an access past the controller is counted
abbrev pub touched : Bus → Bus
touched old = record old { direct = counted old.direct; fresh = false }

-- one such access to the drive in a bay; the other drive stays as it was
pub record Touches (bay : ℕ) (old new : Board) : Type 0 where
  pub bus : new.bus ≡ touched old.bus
  pub other : drive_in new (1 - bay) ≡ drive_in old (1 - bay)

-- A byte of memory is set. In user memory this is counted as an access past the controller, in the driver's page it
-- isn't.
abbrev pub byte_set : ℕ → ℕ → Bus → Bus
byte_set address value old = record old {
  chips = record old.chips { memory = slice_set old.chips.memory address value };
  direct = if nat_lt address user_bytes then counted old.direct else old.direct;
  fresh = false;
}

-- The latch is taken. If it was set, this is counted as an interrupt that was taken.
abbrev pub irq_taken : Bus → Bus
irq_taken old = record old {
  latch = record old.latch { is_set = false };
  taken = if old.latch.is_set then counted old.taken else old.taken;
  fresh = false;
}
