-- What the lemmas of this crate cite of others, and of its own words.
pub use Rattle.std.proofs.lemmas.List.{ext_get_or, get_or-drop, get_or-take, length-drop, length-set, length-take, length-take-le, take_all, take_more}
pub use Rattle.drive_model.specs.Drive.{DriveState}
pub use Rattle.drive_model.specs.PlainDrive.{plain_state}
pub use Rattle.drive_model.specs.declared.plain.PlainDrive.{PlainDrive}
pub use Rattle.flop_base.specs.Memory.{bytes_from, user_bytes}
pub use Rattle.machine_commands.specs.StationReady.{IsStationReady}
pub use Rattle.machine_commands.specs.StationShown.{station_shown}
pub use Rattle.machine_commands.specs.declared.station.MachineStation.{MachineStation}
pub use Rattle.pc_bus.specs.Boards.{Board, controller_of}
pub use Rattle.sector_desk.specs.Desks.{sector_place, station_of}
pub use Rattle.sector_desk.specs.Sectors.{Places}
pub use Rattle.sector_model.specs.Orders.{IsRefusedAtOnce, is_acknowledged, read_refusal}
pub use Rattle.sector_model.specs.Stations.{StationState, bay_of}
