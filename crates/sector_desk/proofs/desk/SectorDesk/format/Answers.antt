use Rattle.sector_desk.proofs.Calming.{calm, quiet_still}
use Rattle.sector_desk.proofs.Readying.{station_again}
use Rattle.sector_desk.proofs.desk.SectorDesk.format.Goals as goal

pub rate-requires-clause-ready : goal.rate-requires-clause-ready
rate-requires-clause-ready c = station_again c.args.self.now.station c.args.self.now.ready

pub format-requires : goal.format-requires
format-requires c = record { ready = station_again c.args.self.now.station c.args.self.now.ready }

pub returns-clause-calm : goal.returns-clause-calm
returns-clause-calm c = calm c.args.bay c.args.self.now.station c.format.new.self (station_again c.args.self.now.station c.args.self.now.ready) c.args.self.now.quiet (quiet_still _ _ c.format.ensures.counts c.args.self.now.quiet)
