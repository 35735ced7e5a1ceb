-- The controller, the adapter with its two drives, commands of several sectors in front of it, and the whole
-- controller; the drive of a bay.
pub use Rattle.c_bay_drive.specs.Bays
pub use Rattle.fdc_core.specs.State
pub use Rattle.fdc_core.specs.Ports
pub use Rattle.fdc_core.specs.Heard
pub use Rattle.fdc_core.specs.Written
pub use Rattle.fdc_core.specs.Drives.Lines
pub use Rattle.fdc_core.specs.Drives.Following
pub use Rattle.fdc_core.specs.Drives.WordTimes
pub use Rattle.fdc_sequencer.specs.Adapters
pub use Rattle.fdc_sequencer.specs.History
pub use Rattle.fdc_sequencer.specs.Fronts
pub use Rattle.fdc_chip.specs.Chips
pub use Rattle.fdc_chip.specs.Ports as ChipPorts
pub use Rattle.fdc_chip.specs.Quiet
pub use Rattle.fdc_chip.specs.Steps
