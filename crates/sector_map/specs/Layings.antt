-- What a format does to a disk.
use Rattle.std.specs.Prelude.{◌≡◌, ℕ, ◌≤◌, List, take, Option, Some}
use Rattle.sector_map.specs.Common.{sectors_at, standard_code, Chrn, Rate, Disk, HasTrack, track_of, IsWithTrack}
use Rattle.track_model.specs.Layouts.{lay, Fits}
use Rattle.flop_base.specs.Lists.{with_items}
use Rattle.sector_map.specs.Standard.{track_keys}

-- What a format is asked for, on a cylinder and a head: records from 1 on, of 512 bytes each, as many as the rate has.
pub record Format : Type 0 where
  pub c : ℕ
  pub h : ℕ
  pub rate : Rate
  pub gap3 : ℕ
  pub fill : ℕ

-- the keys of the format
abbrev pub format_keys : Format → List Chrn
format_keys format = track_keys (sectors_at format.rate) format.c format.h

-- the formatted track of this many words, or its beginning if the sectors don't fit
abbrev pub formatted : Format → ℕ → List ℕ
formatted format words = lay (format_keys format) standard_code format.gap3 format.fill words

-- a format of a track: its cylinder, and how many of the track's first words were written
pub record Laying : Type 0 where
  pub cylinder : ℕ
  pub words : ℕ

-- The disk `after` comes from a laying of the disk. On a track with the format's head, the first words of the layout
-- were written.
pub record IsLaying (format : Format) (disk : Disk) (laying : Laying) (after : Disk) : Type 0 where
  pub track : HasTrack disk laying.cylinder format.h
  pub most : laying.words ≤ disk.words_per_track
  pub laid : IsWithTrack disk laying.cylinder format.h
      (with_items (track_of disk laying.cylinder format.h) 0 (take laying.words (formatted format disk.words_per_track))) after

-- the disk has the track, its rate is that of the format, and the sectors fit on the track
pub record CanFormat (format : Format) (disk : Disk) : Type 0 where
  pub track : HasTrack disk format.c format.h
  pub rate : disk.rate ≡ format.rate
  pub fits : Fits (format_keys format) standard_code format.gap3 disk.words_per_track

-- the medium can be formatted in this way
abbrev pub IsFormattable : Format → Option Disk → Type 0
IsFormattable format medium = (disk : Disk) × (medium ≡ Some disk) × CanFormat format disk
