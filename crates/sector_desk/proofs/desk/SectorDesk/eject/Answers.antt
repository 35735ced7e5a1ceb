use Rattle.sector_desk.proofs.Readying.{station_again}
use Rattle.sector_desk.proofs.desk.SectorDesk.eject.Goals as goal

pub eject-requires-clause-ready : goal.eject-requires-clause-ready
eject-requires-clause-ready c = station_again c.args.self.now.station c.args.self.now.ready
