-- What a READ DATA does to memory, whatever the drive is: absent, empty, spinning up, or another one.
use Rattle.std.specs.Prelude.{◌≡◌, ◌≤◌, ◌+◌, ℕ, true, length}
use Rattle.laws_machine.specs.Common.{Past, is_executing, Board, controller_of, memory_of, channel_of, Chips}
use Rattle.fdc_core.specs.Heard.{MayRead}
use Rattle.laws_machine.specs.OnReads.Begins.{IsLastByte}
use Rattle.laws_machine.specs.OnReads.Scenes.{Scene}
use Rattle.laws_machine.specs.OnReads.Underway.{IsMoved, IsSet}

-- of the scene, only what was sent and the range of memory count
pub record Fetches (scene : Scene) (chips : Chips) : Type 0 where
  pub past : Past
  pub may : MayRead past scene.sent chips.controller
  pub quiet : chips.controller.asking ≡ true → is_executing chips.controller.phase ≡ true
  pub moved : IsMoved scene past.given past.counted chips.memory chips.channel

abbrev pub IsFetching : Scene → Board → Type 0
IsFetching scene board = Fetches scene board.bus.chips

-- the channel is set to the range, and the last byte of a READ DATA is written
pub record CanFetch (scene : Scene) (byte : ℕ) (board : Board) : Type 0 where
  pub fits : scene.address + scene.size ≤ length scene.memory
  pub memory : memory_of board ≡ scene.memory
  pub left : ℕ
  pub size : left + 1 ≡ scene.size
  pub channel : IsSet (channel_of board) scene.address left
  pub last : IsLastByte byte scene.sent (controller_of board)
