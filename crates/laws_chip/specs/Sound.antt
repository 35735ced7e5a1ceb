-- A chip whose parts agree.
use Rattle.std.specs.Prelude.{◌≡◌, ◌<◌, ◌⊎◌, Bool, true, false, ◌==◌, []}
use Rattle.laws_chip.specs.Common.{seek_bits, Taking, Execute, is_gated, is_held, Front, FrontStage, Through, Seeking, Transfer, ChipState, ChipStage, Ready, Busy, ChipTask}
use Rattle.fdc_phases.specs.declared.phases.Phase.{Phase}
use Rattle.fdc_phases.specs.declared.phases.Task.{Task}
use Rattle.fdc_phases.specs.declared.phases.Task.TheVariants.{ReadId, Format}
use Rattle.fdc_core.specs.Steps.{IsCounted}
use Rattle.laws_chip.specs.SectorLasting.{is_under_way}
use Rattle.laws_chip.specs.Serving.{History, Serves}
use Rattle.fdc_chip.specs.declared.stage.Place.{Place}
use Rattle.fdc_chip.specs.declared.stage.Place.TheVariants.{Address}
use Rattle.fdc_chip.specs.declared.stage.ChipTask.TheVariants as task
use Rattle.laws_chip.specs.Beginning.{IsOfFour}

-- ---- ---- the inner controller

-- the inner controller does nothing: it takes commands, or is held in reset
pub record RestsBehind (front : Front) : Type 0 where
  pub through : front.stage ≡ Through
  pub takes : front.adapter.controller.phase ≡ Taking
  pub seek : IsOfFour front.adapter.controller.seeks.seek

-- a command of the controller's own that isn't of a sector
abbrev pub is_single : Task → Bool
is_single (ReadId _) = true
is_single (Format _) = true
is_single _ = false

abbrev pub executes_single : Phase → Bool
executes_single (Execute execution) = is_single execution.task
executes_single _ = false

-- the controller executes a READ ID or a FORMAT TRACK. Fewer than 65,536 of its device steps were made, and no seek bit
-- is set
pub record ExecutesBehind (front : Front) : Type 0 where
  pub through : front.stage ≡ Through
  pub executes : executes_single front.adapter.controller.phase ≡ true
  pub counted : IsCounted front.adapter.controller.phase
  pub rests : seek_bits front.adapter.controller.seeks ≡ 0

-- as long as heads seek before the first sector, the controller executes nothing
abbrev pub WaitsForHeads : FrontStage → Phase → Type 0
WaitsForHeads (Seeking _ _) phase = phase ≡ Taking
WaitsForHeads _ phase = Unit {0}

-- a command of several sectors is served, and under way
pub record ServesBehind (front : Front) : Type 0 where
  pub under_way : is_under_way front.stage ≡ true
  pub first : Transfer
  pub history : History
  pub serves : Serves first history front
  pub waits : WaitsForHeads front.stage front.adapter.controller.phase

-- ---- the chip

-- a READ TRACK looks for an address field by READ ID, and reads sectors
abbrev pub IsBusyAt : Place → Front → Type 0
IsBusyAt Address front = ExecutesBehind front
IsBusyAt _ front = ServesBehind front

-- what the inner controller or the sequencer executes for a task
abbrev pub IsBusyWith : ChipTask → Front → Type 0
IsBusyWith task.Sent front = ServesBehind front ⊎ ExecutesBehind front
IsBusyWith (task.Sought _) front = ExecutesBehind front
IsBusyWith (task.Refused _ _ _) front = ExecutesBehind front
IsBusyWith (task.Verify _) front = ServesBehind front
IsBusyWith (task.Track track) front = IsBusyAt track.place front

-- if the chip is busy, what its task needs is executed. Otherwise nothing is executed
abbrev pub IsSoundAt : ChipStage → Front → Type 0
IsSoundAt (Busy what) front = IsBusyWith what front
IsSoundAt _ front = RestsBehind front

pub record IsSound (chip : ChipState) : Type 0 where
  -- SPECIFY's ND is never set in the inner controller
  pub by_dma : chip.front.adapter.controller.non_dma ≡ false
  -- no byte of a command waits in the inner controller
  pub whole : chip.front.adapter.controller.command ≡ []
  -- while the chip is held in reset nothing is under way, and no byte of a command came
  pub held : is_held chip.front.adapter.controller ≡ true → (chip.stage ≡ Ready) × (chip.count ≡ 0)
  -- if DOR doesn't hold it in reset, the inner controller lets INT and DRQ out
  pub lets_out : is_held chip.front.adapter.controller ≡ false → is_gated chip.front.adapter.controller ≡ true
  -- bytes of a command come while nothing is under way
  pub comes : (chip.count == 0) ≡ false → chip.stage ≡ Ready
  -- the code of the command is a byte
  pub code : chip.order.code < 256
  pub now : IsSoundAt chip.stage chip.front
