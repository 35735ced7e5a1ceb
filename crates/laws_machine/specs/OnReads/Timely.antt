-- A READ DATA whose requests are granted in time.
use Rattle.std.specs.Prelude.{◌≡◌, ℕ, ◌-◌, true, false, length}
use Rattle.laws_machine.specs.Common.{grants, phase_asks, is_executing, is_overrun, is_gated, Fdc, IsReady, Board, Chips}
use Rattle.laws_machine.specs.OnReads.Scenes.{Scene}
pub use Rattle.laws_machine.specs.OnSteps.Stalls.{Stalled}
use Rattle.laws_machine.specs.OnOrders.Orders.{Read, Underway}

-- a READ DATA can go on for so many device steps without a grant: its FIFO has room for one byte in each step
abbrev pub slack_of : Fdc → ℕ
slack_of controller = 16 - length controller.fifo.bytes

-- the FIFO is on with threshold 8, DOR lets DRQ out, and DRQ goes by the rule. Until the terminal count, the request is
-- granted before the FIFO is full.
pub record IsEmptiedInTime (chips : Chips) : Type 0 where
  pub on : chips.controller.fifo.on ≡ true
  pub threshold : chips.controller.fifo.threshold ≡ 8
  pub gated : is_gated chips.controller ≡ true
  pub rule : chips.controller.asking ≡ phase_asks chips.controller.phase chips.controller.asking chips.controller.fifo
  pub ready : grants chips.channel ≡ true → IsReady chips.holding.request (slack_of chips.controller)

-- a READ DATA in execution is emptied in time, and the results don't report OR
pub record IsPunctualRead (chips : Chips) : Type 0 where
  pub timely : is_executing chips.controller.phase ≡ true → IsEmptiedInTime chips
  pub no_overrun : is_overrun chips.controller.phase ≡ false

-- a READ DATA is underway, and in time
abbrev pub ReadInTime : Scene → Board → Type 0
ReadInTime scene board = Underway Read scene board × IsPunctualRead board.bus.chips
