-- What a write does to a disk.
use Rattle.std.specs.Prelude.{ℕ, Bool, List}
use Rattle.sector_map.specs.Common.{Chrn, Disk, HasTrack, track_of, IsWithTrack, IsAddressAt, window, cut_of, IsCuttable}

-- A write behind an address field: its cylinder, the place of the address field, and how many words of the window were
-- written.
pub record Change : Type 0 where
  pub cylinder : ℕ
  pub place : ℕ
  pub words : ℕ

-- what is written, and under which key
pub record Written : Type 0 where
  pub key : Chrn
  pub deleted : Bool
  pub content : List ℕ

-- the words of the window that is written
abbrev pub window_of : Written → List ℕ
window_of written = window written.deleted written.content

-- The disk `after` comes from a change of the disk. On a track with the key's head, behind an address field of the key,
-- the first words of the window were written.
pub record IsChange (written : Written) (disk : Disk) (change : Change) (after : Disk) : Type 0 where
  pub track : HasTrack disk change.cylinder written.key.h
  pub address : IsAddressAt (track_of disk change.cylinder written.key.h) change.place written.key
  pub cuttable : IsCuttable (track_of disk change.cylinder written.key.h) change.place change.words (window_of written)
  pub cut : IsWithTrack disk change.cylinder written.key.h
      (cut_of (track_of disk change.cylinder written.key.h) change.place change.words (window_of written)) after
