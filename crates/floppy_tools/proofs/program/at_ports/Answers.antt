use Rattle.floppy_tools.proofs.Common.{board}
use Rattle.floppy_tools.proofs.Ports.{bare}
use Rattle.floppy_tools.proofs.program.at_ports.Goals as goal

pub run_ports-status-requires : goal.run_ports-status-requires
run_ports-status-requires g c = bare (board g.D.Drive.state c.args.machine) c.requires
