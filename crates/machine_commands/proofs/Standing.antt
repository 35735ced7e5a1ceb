-- What a machine shows of the station that stands on it.
use Rattle.std.proofs.Common.{◌≡◌, refl, sym, subst}
use Rattle.machine_commands.proofs.Common.{DriveState, Board, board_of, ShowsStation, station_shown}
use Rattle.machine_commands.specs.declared.station.MachineStation.{MachineStation}

pub shows_station : {D : Type 0} (state : D → DriveState) (station : MachineStation D) (board : Board) → board ≡ board_of state station.machine → ShowsStation board (station_shown state station)
shows_station state station board is = subst (λ b. ShowsStation b (station_shown state station)) (sym is) (record { first = refl; second = refl; memory = refl; counters = refl })
