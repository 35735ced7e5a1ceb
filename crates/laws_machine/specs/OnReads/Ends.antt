-- A READ DATA that ends before it has taken all its steps.
use Rattle.std.specs.Prelude.{◌≡◌, ℕ, ◌+◌, ◌*◌, ◌≤◌, ◌==◌, ◌&&◌, not, bit_and, Bool, true, false, [], length}
use Rattle.fdc_registers.specs.St1 as st1
use Rattle.fdc_registers.specs.St2 as st2
use Rattle.laws_machine.specs.Common.{Results, is_executing, is_over, is_gated, phase_counted, Phase, Execute, Task, Read, AreShort, IsShort, Low, High, Board, holds_of, Chips}
use Rattle.irq_events.specs.declared.holding.DmaRequest.{DmaRequest}
use Rattle.laws_machine.specs.OnReads.Scenes.{Scene}
use Rattle.laws_machine.specs.OnReads.Served.{IsRuled}
use Rattle.laws_machine.specs.OnReads.Timely.{ReadInTime}
use Rattle.laws_machine.specs.OnOrders.Orders as order
pub use Rattle.laws_machine.specs.OnReads.Late.{ends_late, answers_late, is_late}

-- the results report MA, and not MD
abbrev pub tells_no_mark : Results → Bool
tells_no_mark results =
    (bit_and results.st1.0 st1.missing_mark == st1.missing_mark)
    && not (bit_and results.st2.0 st2.missing_data_mark == st2.missing_data_mark)

-- the field is over, and its last bytes wait for DMA
abbrev pub task_lingers : Task → Bool
task_lingers (Read reading) = is_over reading.stage
task_lingers _ = false

abbrev pub lingers : Phase → Bool
lingers (Execute execution) = task_lingers execution.task
lingers _ = false

-- the device steps that a data command has taken
abbrev pub steps_taken : Phase → ℕ
steps_taken (Execute execution) = execution.steps
steps_taken _ = 0

-- while its line is high, a request is granted within so many device steps; none if no byte waits
abbrev pub wait_left : Bool → DmaRequest → ℕ
wait_left true request = 0
wait_left false Low = 257
wait_left false (High left) = left + 1

-- a READ DATA takes no more steps than these: two revolutions of so many words and a word, and as long as the last
-- bytes wait for their grant
abbrev pub most_steps_of : ℕ → ℕ
most_steps_of words = 2 * words + 258

-- the most steps with the longest revolution, of 16,384 words
abbrev pub most_steps : ℕ
most_steps = 33026

-- in execution DRQ goes by the rule; the FIFO holds no more than it has room for, and nothing after the terminal count.
-- Once the field is over, its bytes are granted before the command has taken `most_steps_of words` steps. A revolution
-- has `words` words.
pub record IsGrantedSoon (words : ℕ) (chips : Chips) : Type 0 where
  pub ruled : IsRuled chips.controller
  pub drained : phase_counted chips.controller.phase ≡ true → chips.controller.fifo.bytes ≡ []
  pub few : lingers chips.controller.phase ≡ true
      → steps_taken chips.controller.phase + wait_left (length chips.controller.fifo.bytes == 0) chips.holding.request ≤ most_steps_of words

-- DOR lets DRQ out, and a request waits for at most 255 device steps more; so the results don't report that the command
-- took too long
pub record IsSoonOver (words : ℕ) (chips : Chips) : Type 0 where
  pub gated : is_gated chips.controller ≡ true
  pub short : IsShort chips.holding.request
  pub granted : is_executing chips.controller.phase ≡ true → IsGrantedSoon words chips
  pub no_late : is_late chips.controller.phase ≡ false

-- a READ DATA is underway, and ends soon after its field, whatever late DMAs are counted
abbrev pub ReadSoon : Scene → Board → Type 0
ReadSoon scene board = order.Underway order.Read scene board × IsSoonOver scene.disk.words_per_track board.bus.chips × AreShort (holds_of board)

-- a READ DATA is underway, in time, and ends soon after its field
abbrev pub ReadPrompt : Scene → Board → Type 0
ReadPrompt scene board = ReadInTime scene board × IsSoonOver scene.disk.words_per_track board.bus.chips
