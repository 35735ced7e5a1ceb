use Rattle.machine_commands.proofs.Common.{board_of}
use Rattle.machine_commands.proofs.PastDriver.{puts_in, put_idle}
use Rattle.machine_commands.proofs.machine.CommandedMachine.insert.Goals as goal

pub returns-clause-step : goal.returns-clause-step
returns-clause-step g c =
    puts_in (board_of g.D.Drive.state c.args.self.now) _ c.args.bay c.args.medium c.insert-outcome.result c.requires c.keep_counts.ensures.counts.direct
    c.insert-outcome.ensures.touches c.insert-outcome.ensures.refused c.insert-outcome.ensures.ok c.insert-outcome.ensures.err

pub returns-clause-idle : goal.returns-clause-idle
returns-clause-idle g c =
    put_idle c.args.self.now.motors (board_of g.D.Drive.state c.args.self.now) _ c.args.bay c.args.medium c.insert-outcome.result c.requires c.insert-outcome.ensures.touches
    c.insert-outcome.ensures.ok c.insert-outcome.ensures.err c.keep_ranges.ensures.first c.keep_ranges.ensures.second
