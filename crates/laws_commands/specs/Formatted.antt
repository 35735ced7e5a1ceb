-- Formatted disks.
use Rattle.std.specs.Prelude.{◌≡◌, ◌≤◌, ℕ, false, List, Option, Some, replicate}
use Rattle.laws_commands.specs.Common.{Files, stored, words_at, gap_at, standard_fill, standard_code, sectors_at, Rate, Disk, IsDisk, HasTrack, track_of, file_of, content_size, in_bay, Entry, key_of, bay_of, State}
use Rattle.sector_map.specs.Layings.{formatted}
use Rattle.sector_map.specs.LaidDisks.{format_at}

-- the track of a standard format: the layout of its keys, with the gap of the rate and the fill F6
abbrev pub standard_track : Rate → ℕ → ℕ → List ℕ
standard_track rate c h = formatted (format_at c h rate (gap_at rate) standard_fill) (words_at rate)

-- A formatted disk of a rate, with these cylinders and two heads. Each track is that of the standard format.
pub record IsFormattedDisk (at : Rate) (count : ℕ) (disk : Disk) : Type 0 where
  pub valid : IsDisk disk
  pub protected : disk.protected ≡ false
  pub cylinders : disk.cylinders ≡ count
  pub heads : disk.heads ≡ 2
  pub rate : disk.rate ≡ at
  pub words_per_track : disk.words_per_track ≡ words_at at
  pub tracks : (c h : ℕ) → HasTrack disk c h → track_of disk c h ≡ standard_track at c h

-- the disk is in a bay, under this name
pub record IsInBay (state : State) (bay : ℕ) (name : List ℕ) (disk : Disk) : Type 0 where
  pub medium : (bay_of state.station bay).medium ≡ Some disk
  pub named : in_bay state.names bay ≡ Some name

-- a formatted disk is in bay 0, and no file changed
pub record LeavesFormatted (at : Rate) (name : List ℕ) (count : ℕ) (told : Option Files) (new : State) (after : Option Files) : Type 0 where
  pub disk : Disk
  pub there : IsInBay new 0 name disk
  pub is : IsFormattedDisk at count disk
  pub files : after ≡ told

-- a formatted disk was stored, and no other file changed
pub record StoresFormatted (at : Rate) (name : List ℕ) (count : ℕ) (told after : Option Files) : Type 0 where
  pub disk : Disk
  pub is : IsFormattedDisk at count disk
  pub files : after ≡ stored told name (file_of disk)

-- the content of a formatted sector, which is bytes F6
unfoldable pub standard_content : List ℕ
standard_content = replicate (content_size standard_code) standard_fill

-- a sector of a formatted disk, whose address field is at this place
abbrev pub formatted_entry : ℕ → ℕ → ℕ → ℕ → Entry
formatted_entry c h r place = record {
  cylinder = c;
  head = h;
  place = place;
  key = key_of c h r;
  deleted = false;
  content = standard_content;
}

-- this sector of the map is one of the standard format, as it was formatted
pub record IsFormattedEntry (disk : Disk) (entry : Entry) : Type 0 where
  pub cylinder : entry.key.c ≡ entry.cylinder
  pub head : entry.key.h ≡ entry.head
  pub sector : (1 ≤ entry.key.r) × (entry.key.r ≤ sectors_at disk.rate)
  pub size : entry.key.n ≡ standard_code
  pub marked : entry.deleted ≡ false
  pub filled : entry.content ≡ standard_content
