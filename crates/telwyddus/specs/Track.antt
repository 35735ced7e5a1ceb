-- Cells, bytes, fields as their words pass, formatted tracks.
pub use Rattle.flop_base.specs.Standard
pub use Rattle.track_model.specs.Cells
pub use Rattle.track_model.specs.Bytes
pub use Rattle.track_model.specs.Crc
pub use Rattle.track_model.specs.Marks
pub use Rattle.track_model.specs.Windows
pub use Rattle.track_model.specs.Layouts
pub use Rattle.track_format.specs.Gaps
pub use Rattle.track_separator.specs.Hunts
pub use Rattle.track_separator.specs.Waits
