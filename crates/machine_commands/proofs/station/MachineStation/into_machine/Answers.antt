use Rattle.machine_commands.proofs.Common.{board}
use Rattle.machine_commands.proofs.Standing.{shows_station}
use Rattle.machine_commands.proofs.station.MachineStation.into_machine.Goals as goal

pub returns : goal.returns
returns g c = record { shows = shows_station g.D.Drive.state c.args.self (board g.D.Drive.state c.into_machine.result) c.into_machine.ensures }
