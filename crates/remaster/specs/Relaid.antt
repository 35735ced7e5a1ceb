-- A track laid out anew.
use Rattle.std.specs.Prelude.{◌≡◌, ℕ, ◌+◌, List, [], ◌∷◌, length, map}
use Rattle.remaster.specs.Common.{words_at, standard_fill, Chrn, Rate, Found, IsAddressAt, content_at, LookAt, sector_place, with_window, wide_gap, IsLargestGap}
use Rattle.sector_map.specs.Met.{unrecorded}
use Rattle.track_model.specs.Windows.{window_place}
use Rattle.track_model.specs.Layouts.{lay}
use Rattle.remaster.specs.declared.sectors.Sector.{Sector}

-- the key of a sector
abbrev pub key_of : Sector → Chrn
key_of sector = sector.key

-- the track after these sectors were written one after the other, from the i-th place of the layout on
abbrev pub with_sectors : ℕ → ℕ → ℕ → List Sector → List ℕ → List ℕ
with_sectors n gap3 i [] track = track
with_sectors n gap3 i (sector ∷ rest) track =
    with_sectors n gap3 (i + 1) rest (with_window track (sector_place n gap3 i) sector.deleted sector.content)

-- a formatted track on which these sectors were written
abbrev pub laid_with : Rate → ℕ → ℕ → List Sector → List ℕ
laid_with rate n gap3 sectors =
    with_sectors n gap3 0 sectors (lay (map key_of sectors) n gap3 standard_fill (words_at rate))

-- The track of these sectors. If there are none, it has words 0000. Otherwise it is formatted with their keys, in this
-- order, with the largest wide gap that suits them, and then each sector is written.
abbrev pub IsRelaid : Rate → List Sector → List ℕ → Type 0
IsRelaid rate [] track = track ≡ unrecorded (words_at rate)
IsRelaid rate (first ∷ rest) track =
    (gap3 : ℕ) × IsLargestGap wide_gap first.key.n (length (first ∷ rest)) rate gap3 × (track ≡ laid_with rate first.key.n gap3 (first ∷ rest))

-- the sector is found at the address field at p, in the place of that field's window
pub record HoldsSector (track : List ℕ) (p : ℕ) (sector : Sector) : Type 0 where
  pub address : IsAddressAt track p sector.key
  pub look : LookAt track p sector.key.n (Found sector.deleted (window_place p + 256))
  pub content : sector.content ≡ content_at track (window_place p + 256) sector.key.n
