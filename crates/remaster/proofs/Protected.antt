-- The image of a medium with the flag of its protection set.
use Rattle.std.proofs.Common.{◌≡◌, ℕ, true, List, slice_set, inl, Ok, Result}
use Rattle.raw_image.specs.declared.error.ImageError.{ImageError}
use Rattle.remaster.proofs.Common.{Disk, IsDisk}
use Rattle.raw_image.specs.Image.{file_of, Spells}

pub protected_spells : (d : Disk) (bytes : List ℕ) → IsDisk d → bytes ≡ slice_set (file_of d) 8 1 → Spells bytes (record d { protected = true })
protected_spells d bytes valid is = (
  record {
    cylinders = valid.cylinders;
    heads = valid.heads;
    words_per_track = valid.words_per_track;
    count = valid.count;
    each = valid.each;
  },
  inl is,
)

abbrev pub read_as : Disk → Result Disk ImageError
read_as d = Ok d

pub same_read : (x y : Disk) → read_as x ≡ read_as y → y ≡ x
same_read x y e = cc
