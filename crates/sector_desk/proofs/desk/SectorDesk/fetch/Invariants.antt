use Rattle.std.proofs.Common.{◌≡◌, length, take, drop}
use Rattle.sector_desk.proofs.Common.{sector_place, station_of}
use Rattle.sector_desk.proofs.desk.SectorDesk.fetch.Given as goal

abbrev pub invariant-loop-i : goal.invariant-loop-i
invariant-loop-i l = record {
  fetched : take l.i l.content ≡ take l.i (drop sector_place (station_of l.self).memory);
  long : length l.content ≡ length l.fn.content;
}
