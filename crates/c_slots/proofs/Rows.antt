-- What is known of each kind of value that a slot holds: how its boxes are owned, and that it may cross threads.
use mir.Syntax.{impl, tnil, dnil}
use mathlib.Core.List.{[]}
use denote.RattleType.{RattleType}
use denote.Param.Laws.{Laws}
use denote.Param.Send.{IsSend}
use Rattle.c_slots.proofs.Common.{Bx, ghosts, dict, controller_row, desk_row, machine_row, shelf_row, tray_row}
use Rattle.std.specs.contracts.alloc.Global as Heap
use Rattle.std.proofs.alloc.Global.TheLaws as heap
use Rattle.c_bay_drive.specs.contracts.bay.BayDrive as bay_drive
use Rattle.c_bay_drive.proofs.bay.BayDrive.TheLaws as bay_laws
use Rattle.c_bay_drive.proofs.bay.BayDrive.TheSendSync as bay_crossing
use Rattle.drive_model.specs.contracts.script.ScriptDrive as script_drive
use Rattle.drive_model.proofs.script.ScriptDrive.TheLaws as script_laws
use Rattle.drive_model.proofs.script.ScriptDrive.TheSendSync as script_crossing
use Rattle.fdc_chip.proofs.chip.Chip.TheLaws as chip_laws
use Rattle.fdc_chip.proofs.chip.Chip.TheSendSync as chip_crossing
use Rattle.pc_bus.proofs.machine.MachineOf.TheLaws as machine_laws
use Rattle.pc_bus.proofs.machine.MachineOf.TheSendSync as machine_crossing
use Rattle.sector_desk.proofs.desk.SectorDesk.TheLaws as desk_laws
use Rattle.sector_desk.proofs.desk.SectorDesk.TheSendSync as desk_crossing
use Rattle.memory_files.proofs.shelf.RunShelf.TheLaws as shelf_laws
use Rattle.memory_files.proofs.shelf.RunShelf.TheSendSync as shelf_crossing
use Rattle.c_slots.proofs.MediumTray.TheLaws as tray_laws
use Rattle.c_slots.proofs.MediumTray.TheSendSync as tray_crossing

-- a box on the heap
abbrev pub on_heap : (R : RattleType) → Laws R → Bx
on_heap R laws = record { row = R; laws = laws; al = record { row = Heap.the_row; laws = heap.the_row_laws; g = ghosts; d = dict; drops = impl [] tnil dnil } }

abbrev pub controller_box : Bx
controller_box = on_heap controller_row (chip_laws.the_row_laws bay_drive.the_row bay_laws.the_row_laws)

abbrev pub machine_box : Bx
machine_box = on_heap machine_row (machine_laws.the_row_laws script_drive.the_row script_laws.the_row_laws)

abbrev pub desk_box : Bx
desk_box = on_heap desk_row desk_laws.the_row_laws

abbrev pub tray_box : Bx
tray_box = on_heap tray_row tray_laws.the_row_laws

abbrev pub shelf_box : Bx
shelf_box = on_heap shelf_row shelf_laws.the_row_laws

pub controller_send : IsSend controller_row
controller_send = chip_crossing.the_send bay_drive.the_row bay_crossing.the_send

pub machine_send : IsSend machine_row
machine_send = machine_crossing.the_send script_drive.the_row script_crossing.the_send

pub desk_send : IsSend desk_row
desk_send = desk_crossing.the_send

pub tray_send : IsSend tray_row
tray_send = tray_crossing.the_send

pub shelf_send : IsSend shelf_row
shelf_send = shelf_crossing.the_send
