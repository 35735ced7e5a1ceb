-- A data command, from its beginning until its end is reported.
use Rattle.std.specs.Prelude.{◌≡◌, ◌⊎◌, ◌≤◌, ◌+◌, ℕ, min, true}
use Rattle.laws_machine.specs.Common.{last_count, data_commands_of, AreShort, counted, Low, Board, controller_of, holds_of, long_holds}
use Rattle.laws_machine.specs.OnQuiet.Quiet.{GoesQuietly, IsHushed}
use Rattle.laws_machine.specs.OnReads.Ends.{ReadPrompt, ReadSoon}
use Rattle.laws_machine.specs.OnReads.Scenes.{Scene}
use Rattle.laws_machine.specs.OnWrites.Guards.{LeavesOthers}
use Rattle.laws_machine.specs.OnWrites.Timely.{IsOnTime}
use Rattle.laws_machine.specs.OnSteps.Stalls.{Stalled}
use Rattle.laws_machine.specs.OnOrders.Orders.{Order, Identify, Read, Write, Underway}
use Rattle.laws_machine.specs.OnAwaits.Awaits.{IsAwaited, IsLetOut}

-- INT and DRQ are let out, INT is low, the FIFO is on with threshold 8, and no request is left from before
pub record StandsReady (board : Board) : Type 0 where
  pub out : IsLetOut (controller_of board)
  pub hushed : IsHushed board
  pub on : (controller_of board).fifo.on ≡ true
  pub threshold : (controller_of board).fifo.threshold ≡ 8
  pub low : (holds_of board).request ≡ Low

-- no count falls, except from beyond its last value; the late DMAs rise by no more than the long DMA latencies that are
-- taken, and nothing went past the controller
pub record CountsOn (old new : Board) : Type 0 where
  pub stalls : min (holds_of old).stalls last_count ≤ (holds_of new).stalls
  pub spent : (holds_of new).stalls + long_holds (holds_of new).entries ≤ (holds_of old).stalls + long_holds (holds_of old).entries
  pub taken : min old.bus.taken last_count ≤ new.bus.taken
  pub direct : new.bus.direct ≡ old.bus.direct

-- the requests of the command are granted in time; READ ID has none
abbrev pub InTime : Order → Scene → Board → Type 0
InTime Identify scene board = Unit {0}
InTime Read scene board = ReadPrompt scene board
InTime (Write laid) scene board = IsOnTime board

-- the command ends soon after its field; READ DATA alone has one to read
abbrev pub EndsSoon : Order → Scene → Board → Type 0
EndsSoon Read scene board = ReadSoon scene board
EndsSoon _ scene board = Unit {0}

-- under a command that reads, the media only go on turning
abbrev pub Listens : Order → ℕ → Board → Board → Type 0
Listens (Write laid) begun start now = Unit {0}
Listens _ begun start now = GoesQuietly begun start now

-- the number of data commands with the one that begins on this board
abbrev pub with_one : Board → ℕ
with_one start = counted (data_commands_of (controller_of start))

-- a command of this order that began on a board is awaited. It is in time if no late DMA was counted since. If all DMA
-- latencies were below 256, it ends soon, whatever late DMAs are counted.
pub record GoesOn (order : Order) (scene : Scene) (start now : Board) : Type 0 where
  pub underway : Underway order scene now
  pub awaited : IsAwaited (with_one start) start now
  pub listens : Listens order (with_one start) start now
  pub others : LeavesOthers start now
  pub counts : CountsOn start now
  pub in_time : InTime order scene now ⊎ Stalled start now
  pub soon : AreShort (holds_of start) → EndsSoon order scene now
