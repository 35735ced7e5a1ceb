-- What holds of a station with a machine between two calls.
use Rattle.std.specs.Prelude.{◌≡◌, All}
use Rattle.machine_commands.specs.Common.{DriveState, IsEmpty, IsAttached}
use Rattle.machine_commands.specs.Shown.{rig_shown, is_idle}
use Rattle.machine_commands.specs.Flagged.{flags_shown}
use Rattle.machine_commands.specs.StationShown.{station_shown}
use Rattle.machine_commands.specs.declared.station.MachineStation.{MachineStation}

-- the machine is idle, driver and machine agree, the flags are those of the bays, and the spare drives are empty
pub record IsStationReady {D : Type 0} (state : D → DriveState) (station : MachineStation D) : Type 0 where
  pub idle : is_idle state station.machine
  pub attached : IsAttached station.driver (rig_shown state station.machine)
  pub flags : station.flags.bays ≡ flags_shown (station_shown state station)
  pub spare : All (λ drive. IsEmpty (state drive)) station.spare.items

abbrev pub is_station_ready : {D : Type 0} → (D → DriveState) → MachineStation D → Type 0
is_station_ready state station = IsStationReady state station
