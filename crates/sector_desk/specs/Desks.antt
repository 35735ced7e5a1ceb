-- What a desk shows.
use Rattle.std.specs.Prelude.{ℕ}
use Rattle.drive_model.specs.PlainDrive.{plain_state}
use Rattle.sector_model.specs.Stations.{StationState}
use Rattle.machine_commands.specs.StationShown.{station_shown}
use Rattle.sector_desk.specs.declared.desk.SectorDesk.{SectorDesk}

-- the station of a desk, as the sector model sees it
abbrev pub station_of : SectorDesk → StationState
station_of desk = station_shown plain_state desk.station

-- where in user memory the bytes of a sector lie while they are transferred
abbrev pub sector_place : ℕ
sector_place = 0x10000
