-- The map of a diskette: the sectors that are found on it, by cylinder, head and place.
use Rattle.std.specs.Prelude.{◌≡◌, ℕ, ◌+◌, ◌<◌, ◌≤◌, ◌&&◌, ◌==◌, Bool, true, false, List, [], ◌∷◌, ◌++◌, if◌then◌else◌}
use Rattle.imagedisk.specs.Common.{Chrn, Disk, HasTrack, track_of, Found, IsAddressAt, content_at, LookAt}
use Rattle.imagedisk.specs.declared.sector.ImdKind.{ImdKind}
use Rattle.imagedisk.specs.declared.sector.ImdKind.TheVariants.{Absent, Good, Deleted, Bad, BadDeleted}
use Rattle.imagedisk.specs.declared.sector.ImdSector.{ImdSector}
use Rattle.imagedisk.specs.declared.track.ImdTrack.{ImdTrack}
use Rattle.imagedisk.specs.declared.image.ImdImage.{ImdImage}

-- an entry of the map
pub record Entry : Type 0 where
  pub key : Chrn
  pub deleted : Bool
  pub content : List ℕ

-- the data of the address field at p are found, as this entry
pub record IsEntryAt (track : List ℕ) (p : ℕ) (entry : Entry) : Type 0 where
  pub address : IsAddressAt track p entry.key
  pub data_are : (place : ℕ) × LookAt track p entry.key.n (Found entry.deleted place) × (entry.content ≡ content_at track place entry.key.n)

-- no data are found at p
abbrev pub IsBare : List ℕ → ℕ → Type 0
IsBare track p = (entry : Entry) → IsEntryAt track p entry → ⊥

-- these are all entries of the track from place `low` on, in order of place
abbrev pub IsMapFrom : List ℕ → ℕ → List Entry → Type 0
IsMapFrom track low [] = (p : ℕ) → low ≤ p → IsBare track p
IsMapFrom track low (entry ∷ entries) =
    (p : ℕ) × (low ≤ p) × ((q : ℕ) → low ≤ q → q < p → IsBare track q) × IsEntryAt track p entry × IsMapFrom track (p + 1) entries

-- the map's entries for a sector: one if its data are good or deleted, and none otherwise
abbrev pub entry_of : Chrn → ImdKind → List ℕ → List Entry
entry_of key Absent content = []
entry_of key Good content = record { key = key; deleted = false; content = content } ∷ []
entry_of key Deleted content = record { key = key; deleted = true; content = content } ∷ []
entry_of key Bad content = []
entry_of key BadDeleted content = []

-- the entries for the good and deleted sectors, in the order of the sectors
abbrev pub entries_of : List ImdSector → List Entry
entries_of [] = []
entries_of (sector ∷ sectors) = entry_of sector.key sector.kind sector.content ++ entries_of sectors

-- the sectors that an image has on a cylinder and head
abbrev pub sectors_on : List ImdTrack → ℕ → ℕ → List ImdSector
sectors_on [] c h = []
sectors_on (track ∷ tracks) c h = if (track.c == c) && (track.h == h) then track.sectors else sectors_on tracks c h

-- The map of the diskette is that of the image: on each track it has the good and deleted sectors, in their order.
abbrev pub HasMapOf : Disk → ImdImage → Type 0
HasMapOf disk image = (c h : ℕ) → HasTrack disk c h → IsMapFrom (track_of disk c h) 0 (entries_of (sectors_on image.tracks c h))
