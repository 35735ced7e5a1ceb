use Rattle.std.proofs.Common.{take}
use Rattle.sector_desk.proofs.Common.{station_of, Places}
use Rattle.sector_desk.proofs.desk.SectorDesk.put.Given as goal

abbrev pub invariant-loop-i : goal.invariant-loop-i
invariant-loop-i l = Places (take l.i l.content) (station_of l.fn.self) (station_of l.self)
