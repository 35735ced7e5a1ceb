-- The one file that is written of an image.
use Rattle.std.specs.Prelude.{ℕ, ◌+◌, Bool, not, List, [], ◌∷◌, ◌++◌, length, map, ◌==◌, codes, slice_index, if◌then◌else◌}
use Rattle.imagedisk.specs.Common.{list_any, list_all, flat_map, Rate, Chrn}
use Rattle.imagedisk.specs.declared.sector.ImdKind.{ImdKind}
use Rattle.imagedisk.specs.declared.sector.ImdKind.TheVariants.{Absent, Good, Deleted, Bad, BadDeleted}
use Rattle.imagedisk.specs.declared.sector.ImdSector.{ImdSector}
use Rattle.imagedisk.specs.declared.track.ImdTrack.{ImdTrack}
use Rattle.imagedisk.specs.declared.image.ImdImage.{ImdImage}
use Rattle.imagedisk.specs.declared.writing.KeyPart.{KeyPart}
use Rattle.imagedisk.specs.declared.writing.KeyPart.TheVariants.{Cylinder, Head, Number}
use Rattle.imagedisk.specs.Headers.{mode_byte}

-- the text that each file begins with
abbrev pub text : List ℕ
text = codes "IMD 1.18: 01/01/2000 00:00:00" ++ 0x0D ∷ 0x0A ∷ 0x1A ∷ []

-- a part of a key
abbrev pub part_of : KeyPart → Chrn → ℕ
part_of Cylinder key = key.c
part_of Head key = key.h
part_of Number key = key.r

-- a map: this part of each sector's key
abbrev pub map_of : KeyPart → List ImdSector → List ℕ
map_of wanted sectors = map (λ (sector : ImdSector). part_of wanted sector.key) sectors

-- whether this part of some sector's key differs from the track's
abbrev pub differs : KeyPart → ℕ → List ImdSector → Bool
differs wanted value sectors = list_any (λ (sector : ImdSector). not (part_of wanted sector.key == value)) sectors

-- the map, if one is needed, or no bytes
abbrev pub needed_map : KeyPart → ℕ → List ImdSector → List ℕ
needed_map wanted value sectors = if differs wanted value sectors then map_of wanted sectors else []

-- the head, with bits 7 and 6 set if maps follow
abbrev pub head_byte : ImdTrack → ℕ
head_byte track =
    track.h + (if differs Cylinder track.c track.sectors then 128 else 0) + (if differs Head track.h track.sectors then 64 else 0)

-- the type of a sector that is written with all its bytes
abbrev pub full_type : ImdKind → ℕ
full_type Absent = 0
full_type Good = 1
full_type Deleted = 3
full_type Bad = 5
full_type BadDeleted = 7

-- whether all bytes are this one
abbrev pub is_all : ℕ → List ℕ → Bool
is_all fill content = list_all (λ byte. byte == fill) content

-- a sector, written as its type and its data; the data are one byte if all bytes are equal
abbrev pub sector_bytes : ImdSector → List ℕ
sector_bytes sector =
    if full_type sector.kind == 0 then 0 ∷ []
    else (if is_all (slice_index sector.content 0) sector.content then (full_type sector.kind + 1) ∷ slice_index sector.content 0 ∷ []
    else full_type sector.kind ∷ sector.content)

-- a track, written as the five bytes, the maps and the sectors
abbrev pub track_bytes : Rate → ImdTrack → List ℕ
track_bytes rate track =
    (mode_byte rate ∷ track.c ∷ head_byte track ∷ length track.sectors ∷ track.n ∷ [])
    ++ map_of Number track.sectors
    ++ needed_map Cylinder track.c track.sectors
    ++ needed_map Head track.h track.sectors
    ++ flat_map sector_bytes track.sectors

-- the file of an image
abbrev pub file_of : ImdImage → List ℕ
file_of image = text ++ flat_map (track_bytes image.rate) image.tracks
