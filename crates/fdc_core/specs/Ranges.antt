-- The numbers of the controller.
use Rattle.fdc_commands.specs.Seeking.{InRange}
use Rattle.fdc_core.specs.Steps.{IsCounted}
use Rattle.fdc_core.specs.declared.controller.Fdc.{Fdc}

-- the numbers of the controller are those that its registers hold
pub record IsInRange (fdc : Fdc) : Type 0 where
  pub counted : IsCounted fdc.phase
  pub seeks : InRange fdc.seeks
