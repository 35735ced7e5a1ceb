use Rattle.machine_commands.proofs.Common.{board_of}
use Rattle.machine_commands.proofs.Identifying.{reads_id, read_id_idle, read_id_costs}
use Rattle.machine_commands.proofs.commands.CommandedMachineCommands.read_id.Goals as goal

pub returns-clause-step : goal.returns-clause-step
returns-clause-step g c =
    rw c.key_of.ensures
    (reads_id c.args.self.now.motors c.args.bay c.args.head c.args.rate c.identify-outcome.result (board_of g.D.Drive.state c.args.self.now) (board_of g.D.Drive.state c.identify-outcome.new.self)
    c.requires.idle c.requires.bay c.requires.head c.requires.spun c.identify-outcome.ensures.sends)

pub returns-clause-idle : goal.returns-clause-idle
returns-clause-idle g c =
    rw c.identify-outcome.ensures.motors
    (read_id_idle c.args.self.now.motors c.args.bay c.args.head c.args.rate c.identify-outcome.result (board_of g.D.Drive.state c.args.self.now) (board_of g.D.Drive.state c.identify-outcome.new.self)
    c.requires.idle c.requires.bay c.requires.head c.requires.spun c.identify-outcome.ensures.sends c.keep_ranges.ensures.first c.keep_ranges.ensures.second)

pub returns-clause-costs : goal.returns-clause-costs
returns-clause-costs g c =
    read_id_costs c.args.self.now.motors c.args.bay c.args.head c.args.rate c.identify-outcome.result (board_of g.D.Drive.state c.args.self.now) (board_of g.D.Drive.state c.identify-outcome.new.self)
    c.requires.idle c.requires.bay c.requires.head c.requires.spun c.identify-outcome.ensures.sends
