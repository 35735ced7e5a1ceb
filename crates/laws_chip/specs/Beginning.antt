-- How a command of several sectors begins, and what is then known of it.
use Rattle.std.specs.Prelude.{◌≡◌, ◌<◌, ◌+◌, ℕ, Bool, true, false, List, [], ◌∷◌, ◌++◌, Option, Some, None, if◌then◌else◌}
use Rattle.fdc_commands.specs.declared.motion.Seek.{Seek}
use Rattle.laws_chip.specs.Common.{Results, Front, is_ready, Operation, Read, Write, Transfer, ChipState, code_of, parameters, Obeys, drained, implies, is_moving, is_size, moves_heads, transfer_sent, StepsChip, ChipOpcode, TransferCode, Order, Held}
use Rattle.fdc_sequencer.specs.declared.opcode.Opcode.{Opcode}
use Rattle.laws_chip.specs.SectorCalls as behind
use Rattle.laws_chip.specs.SectorCalls.{Served}
use Rattle.laws_chip.specs.Serving.{Serves, nothing_moved}
use Rattle.fdc_chip.specs.Orders.{with_byte}
use Rattle.laws_chip.specs.Calls.{AreServed, Call, IsServing, MakesAll}

-- if a seek runs, it is of one of four drives
abbrev pub IsOfFour : Option Seek → Type 0
IsOfFour None = Unit {0}
IsOfFour (Some seek) = seek.drive < 4

-- the inner controller takes commands, its heads stand, and SPECIFY's ND isn't set in it
pub record IsFreeBehind (front : Front) : Type 0 where
  pub ready : is_ready front ≡ true
  pub stands : moves_heads front ≡ false
  pub seek : IsOfFour front.adapter.controller.seeks.seek
  pub by_dma : front.adapter.controller.non_dma ≡ false

-- the sequencer is given the command, and serves it from then on. Nothing of it has passed yet
pub record BeginsBehind (first : Transfer) (front : Front) : Type 0 where
  pub start : Front
  pub begins : behind.Begins first start front
  pub serves : Serves first (nothing_moved false) front

-- the command that was sent begins
pub record IsBegun (first : Transfer) (new : ChipState) : Type 0 where
  pub begins : BeginsBehind first new.front
  pub serving : IsServing new

-- from the command's beginning to the step in which the sequencer has these results: the sequencer's calls, and what
-- passed in them
pub record IsServed (first : Transfer) (calls : List Call) (begun last new : ChipState) (served : AreServed calls begun last) (step : StepsChip last new) (results : Results) : Type 0 where
  pub all : List behind.Call
  pub makes : MakesAll calls begun last served all
  pub within : behind.AreWithin (all ++ behind.Steps ∷ []) begun.front step.between
  pub moved : Served first (all ++ behind.Steps ∷ []) begun.front step.between within results

-- ---- the last byte of a command

-- the order, with this byte added
abbrev pub completed : ℕ → ChipState → Order
completed byte chip = with_byte chip.count byte chip.order

-- all bytes of the command but one have come, and this is the last
pub record Completes (code : ChipOpcode) (byte : ℕ) (old : ChipState) : Type 0 where
  pub others : old.count ≡ parameters code
  pub whole : code_of (completed byte old).code ≡ Some code

-- a command of several sectors that this medium can have, which the sequencer serves
pub record IsTransferOf (order : Order) : Type 0 where
  pub code : code_of order.code ≡ Some (TransferCode true)
  pub size : is_size order.key.n ≡ true

-- eight bytes of such a command came, and this is the ninth
pub record CompletesTransfer (byte : ℕ) (old : ChipState) : Type 0 where
  pub eight : old.count ≡ 8
  pub whole : IsTransferOf (completed byte old)

-- heads move, after results of seeks were taken over
abbrev pub still_moves : ChipState → Bool
still_moves chip = is_moving (drained chip)

-- a whole command is held while heads move
pub record IsHeldFor (order : Order) (chip : ChipState) : Type 0 where
  pub held : chip.stage ≡ Held
  pub order_is : chip.order ≡ order

-- the command is held (first Bool), or it begins. The second Bool says whether a seek is implied for it
abbrev pub BeginsUnless : Bool → Bool → Order → ChipState → Type 0
BeginsUnless true seeks order new = IsHeldFor order new
BeginsUnless false seeks order new = IsBegun (transfer_sent seeks order) new

-- a chip does a command while its inner controller is free. The Bool says whether the chip implies seeks
pub record IsDoneFree (code : ChipOpcode) (order : Order) (seeks : Bool) (new : ChipState) : Type 0 where
  pub set : ChipState
  pub order_is : set.order ≡ order
  pub implied : implies set ≡ seeks
  pub free : IsFreeBehind set.front
  pub obeys : Obeys code set new

-- ---- the code of a command

-- the code of a command with MFM that asks for this, without MT
abbrev pub operation_code : Operation → ℕ
operation_code (Read false skip) = if skip then 0x66 else 0x46
operation_code (Read true skip) = if skip then 0x6C else 0x4C
operation_code (Write false) = 0x45
operation_code (Write true) = 0x49

-- the code of a command with MFM that asks for this
abbrev pub spelled_opcode : Opcode → ℕ
spelled_opcode opcode = (if opcode.multitrack then 0x80 else 0) + operation_code opcode.operation
