-- The value of a controller in a slot.
use denote.RattleType.{RattleType}
use Rattle.fdc_chip.specs.contracts.chip.Chip as chip_of
use Rattle.c_bay_drive.specs.contracts.bay.BayDrive as drive_of

abbrev pub controller_row : RattleType
controller_row = chip_of.the_row drive_of.the_row

abbrev pub ControllerValue : Type 0
ControllerValue = controller_row.Denot
