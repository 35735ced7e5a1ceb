use Rattle.floppy_tools.proofs.Common.{board, station_shown}
use Rattle.floppy_tools.proofs.OnMachines.{shows_as}
use Rattle.floppy_tools.proofs.machines.into_machine.Goals as goal

pub returns : goal.returns
returns g c =
    shows_as (board g.D.Drive.state c.into_machine.result) (station_shown g.D.Drive.state c.into_station.result) c.args.session.station
    c.into_station.ensures.shown c.into_machine.ensures.shows
