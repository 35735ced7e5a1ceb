-- A machine that is set up, between two commands.
use Rattle.std.specs.Prelude.{◌≡◌, ◌≤◌, ◌+◌, ℕ, Bool, true, false, List, [], ◌∷◌, Option, None, length, slice_index, if◌then◌else◌}
use Rattle.machine_commands.specs.Common.{InRange, dor_of, Board, controller_of, latch_of}
use Rattle.fdc_commands.specs.Seeking.{Seeking}
use Rattle.fdc_core.specs.declared.controller.Fdc.{Fdc}
use Rattle.fdc_phases.specs.declared.phases.Phase.TheVariants.{Command}
use Rattle.machine_commands.specs.declared.motors.Motors.{Motors}

-- the level of the line that the latch saw last
abbrev pub is_up : Board → Bool
is_up board = (latch_of board).level

-- DOR with these motors on and a bay selected, out of reset and with INT and DRQ enabled
abbrev pub dor_with : Motors → ℕ → ℕ
dor_with motors bay =
    0x0C + (if motors.first then 0x10 else 0) + (if motors.second then 0x20 else 0) + bay

-- no drive has a result pending
abbrev pub none_pending : List (Option ℕ)
none_pending = None ∷ None ∷ None ∷ None ∷ []

-- no seek runs, no result is pending, and the controller's cylinder numbers of both bays are among those that a driver
-- seeks to
pub record AreSeeksOver (seeks : Seeking) : Type 0 where
  pub no_seek : seeks.seek ≡ None
  pub no_result : seeks.pending ≡ none_pending
  pub four : length seeks.cylinders ≡ 4
  pub first : slice_index seeks.cylinders 0 ≤ 79
  pub second : slice_index seeks.cylinders 1 ≤ 79

-- the controller takes commands: DMA, FIFO and polling are set up, the poll has come, and nothing is pending
pub record IsReady (fdc : Fdc) : Type 0 where
  pub phase : fdc.phase ≡ Command
  pub no_bytes : fdc.command ≡ []
  pub seeks : AreSeeksOver fdc.seeks
  pub by_dma : fdc.non_dma ≡ false
  pub polled : fdc.poll_due ≡ false
  pub no_interrupt : fdc.interrupt ≡ false
  pub not_asking : fdc.asking ≡ false
  pub fifo_on : fdc.fifo.on ≡ true
  pub threshold : fdc.fifo.threshold ≡ 8

-- DOR turns these motors on, and selects one of both bays
pub record HasMotors (motors : Motors) (board : Board) : Type 0 where
  pub bay : ℕ
  pub bay_in : bay ≤ 1
  pub dor : dor_of (controller_of board) ≡ dor_with motors bay
  pub first : board.first.motor ≡ motors.first
  pub second : board.second.motor ≡ motors.second

-- the machine is ready for a command
pub record IsIdle (motors : Motors) (board : Board) : Type 0 where
  pub ready : IsReady (controller_of board)
  pub motors_are : HasMotors motors board
  pub low : is_up board ≡ false
  pub first : InRange board.first
  pub second : InRange board.second
