-- The header of an image file: 14 bytes.
use Rattle.std.specs.Prelude.{ℕ, ◌+◌, ◌*◌, Bool, true, false, List, ◌&&◌, ◌==◌, nat_eq, nat_le, codes, if◌then◌else◌, slice_index, Option, Some, None, Result, Ok, Err}
use Rattle.std.specs.List.{starts_with}
use Rattle.std.specs.Option.{ok_or}
use Rattle.flop_base.specs.declared.answers.Rate.{Rate}
use Rattle.flop_base.specs.declared.answers.Rate.TheVariants.{R500, R250}
use Rattle.raw_image.specs.declared.error.ImageError.{ImageError}
use Rattle.raw_image.specs.declared.error.ImageError.TheVariants.{BadMagic, BadField}
use Rattle.raw_image.specs.declared.header.Version.{Version}
use Rattle.raw_image.specs.declared.header.Version.TheVariants.{First, Second}

-- all that a header tells of a medium
pub record Header : Type 0 where
  pub protected : Bool
  pub cylinders : ℕ
  pub heads : ℕ
  pub rate : Rate
  pub words_per_track : ℕ

-- how many words all tracks have together
abbrev pub word_count : Header → ℕ
word_count h = h.cylinders * h.heads * h.words_per_track

-- the bytes that a file of each version begins with
abbrev pub magic : Version → List ℕ
magic First = codes "RTIMAGE1"
magic Second = codes "RTIMAGE2"

-- the version of a file, by its first bytes
abbrev pub version_of : List ℕ → Option Version
version_of bytes =
    if starts_with nat_eq bytes (magic First) then Some First
    else (if starts_with nat_eq bytes (magic Second) then Some Second else None)

-- the protection that the byte of flags tells: bit 0 is the protection, and all other bits are 0
abbrev pub protection_of : ℕ → Option Bool
protection_of flags = if flags == 0 then Some false else (if flags == 1 then Some true else None)

-- the rate that a byte tells; version 1 has no other rate than 500 kbit/s
abbrev pub rate_of : Version → ℕ → Option Rate
rate_of First byte = if byte == 0 then Some R500 else None
rate_of Second byte = if byte == 0 then Some R500 else (if byte == 2 then Some R250 else None)

-- the number, if it is in this range
abbrev pub within : ℕ → ℕ → ℕ → Option ℕ
within least most n = if nat_le least n && nat_le n most then Some n else None

infixl 10 ◌>>=◌
abbrev pub ◌>>=◌ : {A B : Type 0} → Result A ImageError → (A → Result B ImageError) → Result B ImageError
(Ok x) >>= f = f x
(Err e) >>= f = Err e

-- the field at an offset: its value, or the error that its bytes tell none
abbrev pub field : {A : Type 0} → ℕ → Option A → Result A ImageError
field offset value = ok_or value (BadField offset)

-- what a header tells, or the error for its first field that has no valid value
unfoldable pub header_of : List ℕ → Result Header ImageError
header_of bytes = do
  version ← ok_or (version_of bytes) BadMagic
  protected ← field 8 (protection_of (slice_index bytes 8))
  cylinders ← field 9 (within 1 80 (slice_index bytes 9))
  heads ← field 10 (within 1 2 (slice_index bytes 10))
  rate ← field 11 (rate_of version (slice_index bytes 11))
  words_per_track ← field 12 (within 64 16384 (256 * slice_index bytes 12 + slice_index bytes 13))
  Ok (record {
    protected = protected;
    cylinders = cylinders;
    heads = heads;
    rate = rate;
    words_per_track = words_per_track;
  })
