use Rattle.std.proofs.Common.{subst}
use Rattle.pc_bus.specs.Boards.{board}
use Rattle.sector_model.specs.Stations.{StationState}
use Rattle.machine_commands.specs.StationShown.{ShowsStation}
use Rattle.memory_files.proofs.session.MachineSession.machine.Goals as goal

pub returns : goal.returns
returns g c =
    rw (← c.self.view_is)
    (subst (λ (s : StationState). ShowsStation (board g.D.Drive.state c.machine.result.now) s) c.station.ensures.shown c.machine.ensures.shows)
