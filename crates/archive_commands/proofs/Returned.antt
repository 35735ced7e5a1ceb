-- A disk that is taken to an ImageDisk file and made again.
use Rattle.std.proofs.Common.{◌≡◌, ℕ, List, Result, Ok, subst}
use Rattle.raw_image.specs.Disk.{Disk}
use Rattle.raw_image.specs.Image.{file_of}
use Rattle.raw_image.specs.declared.error.ImageError.{ImageError}
use Rattle.imagedisk.specs.declared.image.ImdImage.{ImdImage}
use Rattle.imagedisk.specs.Found.{HasImage, SharesSectors}
use Rattle.imagedisk.specs.Reading.{image_of as imd_of}
use Rattle.imagedisk.proofs.Imaged.{shares_sectors}
use Rattle.archive_commands.specs.Making.{IsDiskFile, IsImdFile}

one_image : (read : Result ImdImage ImageError) (a b : ImdImage) → read ≡ Ok a → read ≡ Ok b → a ≡ b
one_image read a b one other = cc (one, other)

pub same_sectors : (disk : Disk) (image : ImdImage) (imd file : List ℕ) (taken made : ℕ) → IsImdFile disk imd taken → imd_of imd ≡ Ok image → IsDiskFile image file made
    → (after : Disk) × (file ≡ file_of after) × SharesSectors disk after × SharesSectors after disk
same_sectors disk image imd file taken made told read is =
    let same = one_image (imd_of imd) told.0 image told.4 read in
    let had : HasImage disk image = subst (λ (i : ImdImage). HasImage disk i) same told.2 in
    (is.0, is.3, shares_sectors disk is.0 image had is.2, shares_sectors is.0 disk image is.2 had)
