-- The medium of a flat file.
use Rattle.std.specs.Prelude.{◌≡◌, ◌+◌, ◌/◌, ◌%◌, ◌==◌, ℕ, List, length, map, slice_range, Result, Ok, Err, if◌then◌else◌}
use Rattle.flat_files.specs.Common.{range_with_len, Rate, R500, R250, Disk, sector_place, sectors_told, narrow_gap, HasImage, IsMediumOf, ImdImage, Good, ImdSector, ImdTrack}
use Rattle.raw_image.specs.Image.{OrNoMemory}
use Rattle.raw_image.specs.declared.error.ImageError.{ImageError}

-- Sector i of a track, counted from 0: it has its 512 bytes of the file, and its record number is i + 1.
abbrev pub flat_sector : List ℕ → (sectors c h i : ℕ) → ImdSector
flat_sector bytes sectors c h i = record {
  key = record { c = c; h = h; r = i + 1; n = 2 };
  kind = Good;
  content = slice_range bytes (sector_place sectors c h (i + 1)) (sector_place sectors c h (i + 1) + 512);
}

-- a track with this number, counted by cylinder, then head
abbrev pub flat_track : List ℕ → (sectors track : ℕ) → ImdTrack
flat_track bytes sectors track = record {
  c = track / 2;
  h = track % 2;
  n = 2;
  sectors = map (flat_sector bytes sectors (track / 2) (track % 2)) (range_with_len 0 sectors);
}

-- all sectors of a file, on 80 cylinders of 2 heads
abbrev pub flat_image : List ℕ → ℕ → Rate → ImdImage
flat_image bytes sectors rate = record { rate = rate; tracks = map (flat_track bytes sectors) (range_with_len 0 160) }

-- 18 sectors per track are recorded at 500 kbit/s, and 9 at 250 kbit/s
abbrev pub rate_of : ℕ → Rate
rate_of sectors = if sectors == 18 then R500 else R250

-- a disk has the sectors of a file, this many on each track, and no others
pub record HasFlat (bytes : List ℕ) (sectors : ℕ) (disk : Disk) : Type 0 where
  pub told : sectors_told (length bytes) ≡ Ok sectors
  pub made : IsMediumOf narrow_gap (flat_image bytes sectors (rate_of sectors)) disk
  pub found : HasImage disk (flat_image bytes sectors (rate_of sectors))

-- the medium of a flat file, or what is wrong with the file's length, unless memory ran out
abbrev pub MakesFlat : List ℕ → Result Disk ImageError → Type 0
MakesFlat bytes (Ok disk) = (sectors : ℕ) × HasFlat bytes sectors disk
MakesFlat bytes (Err error) = OrNoMemory error (sectors_told (length bytes) ≡ Err error)
