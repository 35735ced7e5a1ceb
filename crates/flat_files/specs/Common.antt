-- What the words of this crate cite of others.
pub use Rattle.std.specs.List.{list_any, range_with_len}
pub use Rattle.flop_base.specs.declared.answers.Rate.{Rate}
pub use Rattle.flop_base.specs.declared.answers.Rate.TheVariants.{R250, R500}
pub use Rattle.imagedisk.specs.Found.{HasImage}
pub use Rattle.imagedisk.specs.Images.{IsImdImage, IsImdSector, IsImdTrack}
pub use Rattle.imagedisk.specs.Made.{IsFirstCrowded, IsMediumOf}
pub use Rattle.imagedisk.specs.declared.image.ImdImage.{ImdImage}
pub use Rattle.imagedisk.specs.declared.sector.ImdKind.TheVariants.{Absent, Bad, BadDeleted, Deleted, Good}
pub use Rattle.imagedisk.specs.declared.sector.ImdSector.{ImdSector}
pub use Rattle.imagedisk.specs.declared.track.ImdTrack.{ImdTrack}
pub use Rattle.raw_image.specs.Disk.{Disk}
pub use Rattle.sector_map.specs.Flat.{AreApart, IsDensity, IsSector, flat_length, sector_place, sectors_told}
pub use Rattle.track_format.specs.Gaps.{narrow_gap}
