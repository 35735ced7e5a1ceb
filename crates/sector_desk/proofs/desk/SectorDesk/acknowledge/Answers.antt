use Rattle.sector_desk.proofs.Calming.{calm, quiet_still}
use Rattle.sector_desk.proofs.Readying.{station_again}
use Rattle.sector_desk.proofs.desk.SectorDesk.acknowledge.Goals as goal

pub ack-requires : goal.ack-requires
ack-requires c = record { ready = station_again c.args.self.now.station c.args.self.now.ready }

pub returns-clause-calm : goal.returns-clause-calm
returns-clause-calm c = calm c.args.bay c.args.self.now.station c.ack.new.self (station_again c.args.self.now.station c.args.self.now.ready) c.args.self.now.quiet (quiet_still _ _ c.ack.ensures.counts c.args.self.now.quiet)
