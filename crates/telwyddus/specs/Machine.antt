-- The machine, its drives and their planned faults.
pub use Rattle.pc_bus.specs.Boards
pub use Rattle.pc_bus.specs.Steps
pub use Rattle.pc_bus.specs.Ports
pub use Rattle.pc_bus.specs.Calls
pub use Rattle.fdc_core.specs.Drives.Lines
pub use Rattle.fdc_core.specs.Drives.Following
pub use Rattle.fdc_core.specs.Drives.WordTimes
pub use Rattle.drive_model.specs.Drive
pub use Rattle.drive_model.specs.Fault
pub use Rattle.drive_model.specs.PlainDrive
pub use Rattle.drive_model.specs.ScriptDrive
