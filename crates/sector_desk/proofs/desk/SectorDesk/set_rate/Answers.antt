use Rattle.sector_desk.proofs.Calming.{calm, quiet_still}
use Rattle.sector_desk.proofs.Readying.{station_again}
use Rattle.sector_desk.proofs.desk.SectorDesk.set_rate.Goals as goal

pub set_rate-requires : goal.set_rate-requires
set_rate-requires c = record { ready = station_again c.args.self.now.station c.args.self.now.ready }

pub returns-clause-calm : goal.returns-clause-calm
returns-clause-calm c = calm c.args.bay c.args.self.now.station c.set_rate.new.self (station_again c.args.self.now.station c.args.self.now.ready) c.args.self.now.quiet (quiet_still _ _ c.set_rate.ensures.counts c.args.self.now.quiet)
