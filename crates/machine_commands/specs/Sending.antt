-- Bytes to and from the controller.
use Rattle.std.specs.Prelude.{◌≡◌, ◌≤◌, ◌==◌, ℕ, Bool, true, false, List, [], ◌∷◌}
use Rattle.machine_commands.specs.Common.{Board, Inputs, Outputs, Runs, stirred}
use Rattle.pc_bus.specs.Handling.{irq_taken}

-- the bytes of a command go to the data port, one by one
abbrev pub Sends : List ℕ → Board → Board → Type 0
Sends [] old new = new ≡ old
Sends (byte ∷ rest) old new = (between : Board) × Outputs 0x3F5 byte old between × Sends rest between new

-- the latch is taken
abbrev pub latch_taken : Board → Board
latch_taken board = record board { bus = irq_taken board.bus }

-- one device step, and then the latch is taken
pub record Settles (old new : Board) : Type 0 where
  pub between : Board
  pub runs : Runs 1 (stirred old) between
  pub taken : new ≡ latch_taken between
  pub counts : old.bus.taken ≤ new.bus.taken

-- the cylinder number after status register 0 is read, if a result was pending
abbrev pub TakesNumber : Bool → Board → Board → Type 0
TakesNumber true old new = new ≡ old
TakesNumber false old new = (number : ℕ) × Inputs 0x3F5 old number new

-- SENSE INTERRUPT gives this status
pub record Senses (old : Board) (status : ℕ) (new : Board) : Type 0 where
  pub sent : Board
  pub sends : Sends (0x08 ∷ []) old sent
  pub between : Board
  pub takes : Inputs 0x3F5 sent status between
  pub number : TakesNumber (status == 0x80) between new
