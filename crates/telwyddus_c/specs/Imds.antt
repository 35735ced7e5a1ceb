-- ImageDisk files in buffers of C.
use Rattle.std.specs.Prelude.{◌≡◌, ◌==◌, ℕ, List, Option, None, Some, Ok, Err, MatchBool}
use Rattle.telwyddus_c.specs.Common.{TrayValue, MakesDisk, Disk, ImageError, narrow_gap}
use Rattle.imagedisk.specs.Found.{HasImage}
use Rattle.imagedisk.specs.Reading.{image_of}
use Rattle.imagedisk.specs.Taken.{TakesDisk}
use Rattle.imagedisk.specs.Writing.{file_of}
use Rattle.imagedisk.specs.declared.error.ImdError.TheVariants.{Unfit}
use Rattle.imagedisk.specs.declared.image.ImdImage.{ImdImage}
use Rattle.telwyddus_c.specs.Buffers.{WritesBytes}
use Rattle.telwyddus_c.specs.Slots.{FullOr}

-- a tray is made with the medium of an image, which has the image's sectors. By the code of the call:
-- - 0: the tray is made;
-- - 21: a track of the image has no room for its sectors. The cylinder and head of the first such track are reported;
-- - 3: memory is out.
abbrev pub MakesTray : ImdImage → ℕ → (c_was c_told h_was h_told : ℕ) → Option TrayValue → Option TrayValue → Type 0
MakesTray image code c_was c_told h_was h_told old new =
    MatchBool (code == 0) ((disk : Disk) × MakesDisk narrow_gap image (Ok disk) × HasImage disk image × (new ≡ Some (record { medium = Some disk }))
    × (c_told ≡ c_was) × (h_told ≡ h_was))
    (MatchBool (code == 21) (MakesDisk narrow_gap image (Err (Unfit c_told h_told)) × (new ≡ old))
    (MatchBool (code == 3) ((new ≡ old) × (c_told ≡ c_was) × (h_told ≡ h_was)) ⊥))

-- a tray is made with the medium of an ImageDisk file, by the codes 0, 21 and 3 as of an image. If the slot holds a
-- tray already, 2, or if the bytes are no such file, 5, the slot stays
abbrev pub ReadsImd : List ℕ → ℕ → (c_was c_told h_was h_told : ℕ) → Option TrayValue → Option TrayValue → Type 0
ReadsImd bytes code c_was c_told h_was h_told old new =
    FullOr code old new ((c_told ≡ c_was) × (h_told ≡ h_was))
    (MatchBool (code == 5) (((error : ImageError) × (image_of bytes ≡ Err error)) × (new ≡ old) × (c_told ≡ c_was) × (h_told ≡ h_was))
    (MatchBool (code == 3) ((new ≡ old) × (c_told ≡ c_was) × (h_told ≡ h_was))
    ((image : ImdImage) × (image_of bytes ≡ Ok image) × MakesTray image code c_was c_told h_was h_told old new)))

-- the ImageDisk file of a medium has the medium's sectors, and reads back. It is written to a buffer. By the code of
-- the call:
-- - 0: the file is written;
-- - 10: the buffer is too short;
-- - 21: such a file can't have a track. The cylinder and head of the first such track are reported;
-- - 7: there is no medium, and all stays;
-- - 3: memory is out, and all stays.
abbrev pub WritesImd : Option Disk → ℕ → List ℕ → List ℕ → (was told c_was c_told h_was h_told : ℕ) → Type 0
WritesImd None code old new was told c_was c_told h_was h_told =
    (code ≡ 7) × (new ≡ old) × (told ≡ was) × (c_told ≡ c_was) × (h_told ≡ h_was)
WritesImd (Some disk) code old new was told c_was c_told h_was h_told =
    MatchBool (code == 21) (TakesDisk disk (Err (Unfit c_told h_told)) × (new ≡ old) × (told ≡ was))
    (MatchBool (code == 3) ((new ≡ old) × (told ≡ was) × (c_told ≡ c_was) × (h_told ≡ h_was))
    ((image : ImdImage) × TakesDisk disk (Ok image) × HasImage disk image × (image_of (file_of image) ≡ Ok image)
    × WritesBytes (file_of image) code old new told × (c_told ≡ c_was) × (h_told ≡ h_was)))
