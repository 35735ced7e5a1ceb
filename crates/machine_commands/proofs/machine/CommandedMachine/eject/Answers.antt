use Rattle.machine_commands.proofs.Common.{board_of}
use Rattle.machine_commands.proofs.PastDriver.{takes_out, taken_idle}
use Rattle.machine_commands.proofs.machine.CommandedMachine.eject.Goals as goal

pub returns-clause-step : goal.returns-clause-step
returns-clause-step g c =
    takes_out (board_of g.D.Drive.state c.args.self.now) _ c.args.bay c.eject-medium.result c.requires c.keep_counts.ensures.counts.direct
    c.eject-medium.ensures.touches c.eject-medium.ensures.medium c.eject-medium.ensures.becomes

pub returns-clause-idle : goal.returns-clause-idle
returns-clause-idle g c =
    taken_idle c.args.self.now.motors (board_of g.D.Drive.state c.args.self.now) _ c.args.bay c.requires c.eject-medium.ensures.touches c.eject-medium.ensures.becomes
    c.keep_ranges.ensures.first c.keep_ranges.ensures.second
