-- A station: what it shows, how it starts, and what its calls are; single sectors.
pub use Rattle.flop_base.specs.Counters
pub use Rattle.flop_base.specs.Memory
pub use Rattle.machine_commands.specs.StationReady
pub use Rattle.machine_commands.specs.StationShown
pub use Rattle.machine_commands.specs.Started
pub use Rattle.sector_model.specs.Stations
pub use Rattle.sector_model.specs.Orders
pub use Rattle.sector_model.specs.Calls
pub use Rattle.sector_model.specs.Reads
pub use Rattle.sector_model.specs.Writes
pub use Rattle.sector_model.specs.Formats
pub use Rattle.sector_desk.specs.Desks
pub use Rattle.sector_desk.specs.Sectors
