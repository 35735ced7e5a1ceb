use Rattle.machine_commands.proofs.Common.{board_of}
use Rattle.machine_commands.proofs.PastDriver.{exchanges, exchange_idle}
use Rattle.machine_commands.proofs.machine.CommandedMachine.exchange.Goals as goal

pub returns-clause-step : goal.returns-clause-step
returns-clause-step g c =
    exchanges (board_of g.D.Drive.state c.args.self.now) _ c.args.bay (g.D.Drive.state c.args.drive) c.requires.bay c.keep_counts.ensures.counts.direct
    c.exchange-old.ensures.touches c.requires.empty c.exchange-old.ensures.new

pub returns-clause-idle : goal.returns-clause-idle
returns-clause-idle g c =
    exchange_idle c.args.self.now.motors (board_of g.D.Drive.state c.args.self.now) _ c.args.bay (g.D.Drive.state c.args.drive) c.requires.bay
    c.exchange-old.ensures.touches c.exchange-old.ensures.new c.keep_ranges.ensures.first c.keep_ranges.ensures.second
