-- The shape of a medium, seen as its header.
use Rattle.std.specs.Prelude.{◌≡◌, Result, Ok, Err}
use Rattle.raw_image.specs.declared.error.ImageError.{ImageError}
use Rattle.raw_image.specs.declared.shape.ImageShape.{ImageShape}
use Rattle.raw_image.specs.Header.{Header}

-- the header that tells of this shape
abbrev pub header_view : ImageShape → Header
header_view s = record {
  protected = s.protected;
  cylinders = s.cylinders;
  heads = s.heads;
  rate = s.rate;
  words_per_track = s.words_per_track;
}

-- what was answered is what the header tells
abbrev pub Tells : Result Header ImageError → Result ImageShape ImageError → Type 0
Tells header (Ok s) = header ≡ Ok (header_view s)
Tells header (Err e) = header ≡ Err e
