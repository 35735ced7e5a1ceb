-- What the words of this crate cite of others.
pub use Rattle.std.specs.declared.alloc.Global.{Global}
pub use Rattle.flop_base.specs.Shelf.{Files, file_at, stored}
pub use Rattle.flop_base.specs.declared.answers.Status.{Status}
pub use Rattle.imagedisk.specs.Found.{HasImage, SharesSectors}
pub use Rattle.imagedisk.specs.Reading.{image_of as imd_of}
pub use Rattle.imagedisk.specs.declared.image.ImdImage.{ImdImage}
pub use Rattle.raw_image.specs.Disk.{Disk}
pub use Rattle.raw_image.specs.Image.{file_of, image_of}
pub use Rattle.raw_image.specs.declared.error.ImageError.{ImageError}
pub use Rattle.sector_model.specs.Faults.{Blames}
pub use Rattle.sector_model.specs.Plays.{Prints}
pub use Rattle.sector_model.specs.Texts.{line_end, stop_lines, stop_status}
pub use Rattle.sector_model.specs.declared.reply.Stop.{Stop}
