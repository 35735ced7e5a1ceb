-- The value of a tray in a slot.
use denote.RattleType.{RattleType}
use Rattle.c_slots.specs.contracts.MediumTray as tray_of

abbrev pub tray_row : RattleType
tray_row = tray_of.the_row

abbrev pub TrayValue : Type 0
TrayValue = tray_row.Denot
