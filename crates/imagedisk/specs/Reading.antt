-- The parts of an ImageDisk file in order, and the error for the first part that is cut short or has a byte that isn't
-- allowed there.
use Rattle.std.specs.Prelude.{ℕ, zero, suc, ◌+◌, ◌*◌, ◌^◌, ◌%◌, Bool, List, [], ◌∷◌, ◌++◌, length, drop, replicate, ◌==◌, nat_eq, nat_le, codes, slice_index, slice_index_or, position, if◌then◌else◌, Option, Some, None, Result, Ok, Err}
use Rattle.imagedisk.specs.Common.{starts_with, Rate, R500, Chrn, ImageError, TooShort, BadMagic}
use Rattle.std.specs.Option.{ok_or, unwrap_or}
use Rattle.raw_image.specs.Header.{◌>>=◌, field}
use Rattle.imagedisk.specs.declared.header.Header.{Header}
use Rattle.imagedisk.specs.declared.sector.ImdKind.{ImdKind}
use Rattle.imagedisk.specs.declared.sector.ImdKind.TheVariants.{Absent, Good, Deleted, Bad, BadDeleted}
use Rattle.imagedisk.specs.declared.sector.ImdSector.{ImdSector}
use Rattle.imagedisk.specs.declared.track.ImdTrack.{ImdTrack}
use Rattle.imagedisk.specs.declared.image.ImdImage.{ImdImage}
use Rattle.imagedisk.specs.Left.{Rest, part}
use Rattle.imagedisk.specs.Headers.{header_at}

-- the bytes that a file begins with
abbrev pub magic : List ℕ
magic = codes "IMD "

-- the place of the first 1A, which ends the text
abbrev pub text_end : List ℕ → Option ℕ
text_end bytes = position (λ byte. byte == 0x1A) bytes

-- what follows the text of a file
abbrev pub tracks_begin : List ℕ → Result Rest ImageError
tracks_begin bytes =
    if starts_with nat_eq bytes magic
    then (ok_or (text_end bytes) (TooShort (length bytes + 1) (length bytes))
    >>= λ end. Ok (record { offset = end + 1; bytes = drop (end + 1) bytes }))
    else Err BadMagic

-- a map of the track, with one byte for each sector, or nothing if the track has no such map
abbrev pub map_at : Bool → ℕ → Rest → Result (List ℕ × Rest) ImageError
map_at is_there count rest = if is_there then part count rest else Ok ([], rest)

-- the key of a sector; if there is no map of cylinders or heads, the track's own cylinder or head is used
abbrev pub key_at : Header → List ℕ → List ℕ → List ℕ → ℕ → Chrn
key_at header numbers cylinders heads i = record {
  c = slice_index_or cylinders i header.c;
  h = slice_index_or heads i header.h;
  r = slice_index numbers i;
  n = header.n;
}

-- the kind of a sector by its type
abbrev pub kind_of : ℕ → Option ImdKind
kind_of type =
    if type == 0 then Some Absent
    else (if nat_le type 2 then Some Good
    else (if nat_le type 4 then Some Deleted
    else (if nat_le type 6 then Some Bad
    else (if nat_le type 8 then Some BadDeleted else None))))

-- The data of a sector. Type 0 has none. The other even types have one byte, which fills the sector. The odd types have
-- all bytes.
abbrev pub content_at : ℕ → ℕ → Rest → Result (List ℕ × Rest) ImageError
content_at type size rest =
    if type == 0 then Ok ([], rest)
    else (if type % 2 == 0 then (part 1 rest >>= λ fill. Ok (replicate size (slice_index fill.0 0), fill.1)) else part size rest)

-- a sector, which is its type and its data
unfoldable pub sector_at : Chrn → Rest → Result (ImdSector × Rest) ImageError
sector_at key rest = do
  type ← part 1 rest
  kind ← field rest.offset (kind_of (slice_index type.0 0))
  content ← content_at (slice_index type.0 0) (128 * 2 ^ key.n) type.1
  Ok (record { key = key; kind = kind; content = content.0 }, content.1)

-- this many sectors, the first of which has number `first`; `key` gives their keys
unfoldable pub sectors_at : (ℕ → Chrn) → ℕ → ℕ → Rest → Result (List ImdSector × Rest) ImageError
sectors_at key first zero rest = Ok ([], rest)
sectors_at key first (suc count) rest = do
  sector ← sector_at (key first) rest
  others ← sectors_at key (suc first) count sector.1
  Ok (sector.0 ∷ others.0, others.1)

-- a track with its rate: the five bytes, the map of record numbers, the maps of cylinders and heads, and the sectors
unfoldable pub track_at : Option Rate → List ImdTrack → Rest → Result (Rate × ImdTrack × Rest) ImageError
track_at before tracks rest = do
  header ← header_at before tracks rest
  numbers ← part header.0.sectors header.1
  cylinders ← map_at header.0.has_cylinders header.0.sectors numbers.1
  heads ← map_at header.0.has_heads header.0.sectors cylinders.1
  sectors ← sectors_at (key_at header.0 numbers.0 cylinders.0 heads.0) 0 header.0.sectors heads.1
  Ok (header.0.rate, record { c = header.0.c; h = header.0.h; n = header.0.n; sectors = sectors.0 }, sectors.1)

-- the image with these tracks and this rate; without tracks the rate is 500 kbit/s
abbrev pub image_with : Option Rate → List ImdTrack → ImdImage
image_with rate tracks = record { rate = unwrap_or rate R500; tracks = tracks }

-- All tracks up to the end of the file, after those that came already. At most `most` tracks are read: as many as there
-- are bytes, and there can't be more.
unfoldable pub tracks_at : ℕ → Option Rate → List ImdTrack → Rest → Result ImdImage ImageError
tracks_at zero rate tracks rest = Ok (image_with rate tracks)
tracks_at (suc most) rate tracks rest =
    if length rest.bytes == 0 then Ok (image_with rate tracks)
    else (track_at rate tracks rest >>= λ track. tracks_at most (Some track.0) (tracks ++ track.1 ∷ []) track.2)

-- the image that a file holds, or the first thing that is wrong with the file
unfoldable pub image_of : List ℕ → Result ImdImage ImageError
image_of bytes = tracks_begin bytes >>= λ rest. tracks_at (length rest.bytes) None [] rest
