-- A data command from its beginning to the interrupt at its end.
use Rattle.std.specs.Prelude.{◌≡◌, ◌≤◌, ◌%◌, ℕ, Bool, true, false, [], None, is_some}
use Rattle.laws_machine.specs.Common.{Spends, DriveState, is_fresh, is_executing, dor_of, is_gated, Fdc, Phase, Result, Board, controller_of, latch_of}
use Rattle.laws_machine.specs.OnQuiet.Quiet.{IsHushed}

-- heads, change line and motor stay; the medium stays in and loses no speed, whatever is written on it; no fault is
-- taken back, and no more faults come than were left
pub record TurnsOn (old new : DriveState) : Type 0 where
  pub stays_in : is_some new.medium ≡ is_some old.medium
  pub cylinder : new.cylinder ≡ old.cylinder
  pub change : new.change ≡ old.change
  pub motor : new.motor ≡ old.motor
  pub spin : old.spin ≤ new.spin
  pub never_falls : old.faults ≤ new.faults
  pub spends : Spends old.faults old.left new.faults new.left

-- one of the two drives is selected, INT and DRQ are let out, no seek runs, and no poll is to come
pub record IsLetOut (fdc : Fdc) : Type 0 where
  pub selects : dor_of fdc % 4 ≤ 1
  pub gated : is_gated fdc ≡ true
  pub no_seek : fdc.seeks.seek ≡ None
  pub polled : fdc.poll_due ≡ false

-- what was set stands, and no byte of a further command has come; `begun` data commands have begun
pub record HoldsSet (begun : ℕ) (start now : Fdc) : Type 0 where
  pub seeks : now.seeks ≡ start.seeks
  pub dor : now.dor ≡ start.dor
  pub rate : now.rate ≡ start.rate
  pub non_dma : now.non_dma ≡ start.non_dma
  pub polling : now.polling ≡ start.polling
  pub on : now.fifo.on ≡ start.fifo.on
  pub threshold : now.fifo.threshold ≡ start.fifo.threshold
  pub command : now.command ≡ []
  pub data_commands : now.data_commands ≡ begun

-- results of which no byte was read
abbrev pub is_unread : Phase → Bool
is_unread (Result answer) = is_fresh answer
is_unread _ = false

-- the results are there, DRQ is low, and the latch is set
pub record HasEnded (board : Board) : Type 0 where
  pub set : (latch_of board).is_set ≡ true
  pub unread : is_unread (controller_of board).phase ≡ true
  pub quiet : (controller_of board).asking ≡ false

-- a data command that began on a board is in execution, with INT low, or has ended; all else stands as it was set,
-- except what is written and read
pub record IsAwaited (begun : ℕ) (start now : Board) : Type 0 where
  pub calm : IsLetOut (controller_of now)
  pub holds : HoldsSet begun (controller_of start) (controller_of now)
  pub first : TurnsOn start.first now.first
  pub second : TurnsOn start.second now.second
  pub waits : is_executing (controller_of now).phase ≡ true → IsHushed now
  pub ended : is_executing (controller_of now).phase ≡ false → HasEnded now
