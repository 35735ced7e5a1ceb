use Rattle.floppy_tools.proofs.Common.{board, all_counts, station_shown}
use Rattle.floppy_tools.proofs.OnMachines.{set_up_shown}
use Rattle.floppy_tools.proofs.machines.set_up.Goals as goal

pub returns : goal.returns
returns g c = set_up_shown (board g.D.Drive.state c.args.machine) (all_counts g.D.Drive.state c.args.spare.items) c.new.result (station_shown g.D.Drive.state c.set_up-station.result) c.new.ensures c.set_up-station.ensures.fresh c.set_up-station.ensures.starts
