-- Media, image files, the sectors of a track and of a disk.
pub use Rattle.raw_image.specs.Disk
pub use Rattle.raw_image.specs.Image
pub use Rattle.track_model.specs.Fields
pub use Rattle.track_model.specs.Looks
pub use Rattle.track_model.specs.Sectors
pub use Rattle.sector_map.specs.Turned
pub use Rattle.sector_map.specs.Disks
pub use Rattle.sector_map.specs.Failing
