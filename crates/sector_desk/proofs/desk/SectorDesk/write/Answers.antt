use Rattle.sector_desk.proofs.Common.{station_of}
use Rattle.sector_desk.proofs.Calming.{calm, quiet_still}
use Rattle.sector_desk.proofs.Readying.{station_again}
use Rattle.sector_desk.proofs.desk.SectorDesk.write.Goals as goal

pub write-requires : goal.write-requires
write-requires c = record { ready = station_again c.put.new.self.station c.put.new.self.ready }

pub returns : goal.returns
returns c = record {
  placed = station_of c.put.new.self;
  places = c.put.ensures.places;
  there = c.put.ensures.there;
  step = c.write.ensures.step;
  calm = calm c.args.bay c.put.new.self.station c.write.new.self (station_again c.put.new.self.station c.put.new.self.ready) c.put.new.self.quiet (quiet_still _ _ c.write.ensures.counts c.put.new.self.quiet);
}
