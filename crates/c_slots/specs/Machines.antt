-- The value of a machine in a slot.
use denote.RattleType.{RattleType}
use Rattle.pc_bus.specs.contracts.machine.MachineOf as machine_of
use Rattle.drive_model.specs.contracts.script.ScriptDrive as drive_of

abbrev pub machine_row : RattleType
machine_row = machine_of.the_row drive_of.the_row

abbrev pub MachineValue : Type 0
MachineValue = machine_row.Denot
