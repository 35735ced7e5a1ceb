-- The sectors of a disk.
use Rattle.std.specs.Prelude.{◌≡◌, ℕ, Bool, List}
use Rattle.sector_map.specs.Common.{Chrn, Disk, HasTrack, track_of, Look, Found, NoMark, IsAddressAt, content_at, LookAt, LookFor, IsRegular}

-- the answer of the look for a key, on the track of its cylinder and head; NoMark if the disk has no such track
pub record LookOn (disk : Disk) (key : Chrn) (look : Look) : Type 0 where
  pub there : HasTrack disk key.c key.h → LookFor (track_of disk key.c key.h) key look
  pub absent : (HasTrack disk key.c key.h → ⊥) → look ≡ NoMark

-- each track is regular for its cylinder and head
abbrev pub IsRegularDisk : Disk → Type 0
IsRegularDisk disk = (c h : ℕ) → HasTrack disk c h → IsRegular (track_of disk c h) c h

-- an entry of the map of all sectors: the place of its address field, its key, its mark and its content
pub record Entry : Type 0 where
  pub cylinder : ℕ
  pub head : ℕ
  pub place : ℕ
  pub key : Chrn
  pub deleted : Bool
  pub content : List ℕ

-- Map: the disk has this sector on this track
pub record IsOnMap (disk : Disk) (entry : Entry) : Type 0 where
  pub track : HasTrack disk entry.cylinder entry.head
  pub address : IsAddressAt (track_of disk entry.cylinder entry.head) entry.place entry.key
  pub content : (place : ℕ) × LookAt (track_of disk entry.cylinder entry.head) entry.place entry.key.n (Found entry.deleted place)
      × (entry.content ≡ content_at (track_of disk entry.cylinder entry.head) place entry.key.n)
