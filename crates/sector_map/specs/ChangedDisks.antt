-- Changes of a disk: whole and safe ones, several joined into one, and what the disk has after them.
use Rattle.std.specs.Prelude.{◌≡◌, ℕ, ◌+◌, Bool, List, length, max, ◌⊎◌}
use Rattle.sector_map.specs.Common.{Chrn, Disk, track_of, Look, Found, IsAddressAt, content_at, LookAt, IsSector, window_place, IsTidy}
use Rattle.sector_map.specs.Disks.{Entry}
use Rattle.sector_map.specs.Met.{HasClearAddress, HasLook, AllFound}
use Rattle.sector_map.specs.Changes.{Change, Written, window_of}

-- this content, with this mark, written under this key
abbrev pub written_under : Chrn → Bool → List ℕ → Written
written_under key deleted content = record { key = key; deleted = deleted; content = content }

-- a change on this cylinder, at this place, with this count of words
abbrev pub change_at : ℕ → ℕ → ℕ → Change
change_at cylinder place words = record { cylinder = cylinder; place = place; words = words }

-- the map's entry for what was written, with its address field at `place`
abbrev pub entry_of : Written → ℕ → Entry
entry_of written place = record {
  cylinder = written.key.c;
  head = written.key.h;
  place = place;
  key = written.key;
  deleted = written.deleted;
  content = written.content;
}

-- the whole window was written
abbrev pub IsWholeChange : Written → Change → Type 0
IsWholeChange written change = change.words ≡ length (window_of written)

-- a change is safe if the track is Tidy there, so that a write may stop anywhere, or if the whole window was written
abbrev pub IsSafeChange : Written → Disk → Change → Type 0
IsSafeChange written disk change =
    IsTidy (track_of disk change.cylinder written.key.h) change.place written.deleted written.content
    ⊎ IsWholeChange written change

-- a change and a later one at the same address field, joined into one: the longer of the two stands
abbrev pub joined : Change → Change → Change
joined one two = record {
  cylinder = one.cylinder;
  place = one.place;
  words = max one.words two.words;
}

-- the track has what was written, behind the address field at `place`, and it has nothing else under that key
pub record HasWritten (written : Written) (place : ℕ) (track : List ℕ) : Type 0 where
  pub address : IsAddressAt track place written.key
  pub look : LookAt track place written.key.n (Found written.deleted (window_place place + 256))
  pub content : written.content ≡ content_at track (window_place place + 256) written.key.n
  pub sector : IsSector track written.key written.deleted written.content
  pub clear : HasClearAddress track written.key
  pub all_found : AllFound track written.key
  pub one_place : (p : ℕ) → IsAddressAt track p written.key → p ≡ place
  pub one_look : (look : Look) → HasLook track written.key look
      → look ≡ Found written.deleted (window_place place + 256)
  pub one_content : (deleted : Bool) (content : List ℕ) → IsSector track written.key deleted content
      → (deleted ≡ written.deleted) × (content ≡ written.content)
