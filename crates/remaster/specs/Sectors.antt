-- The sectors of a track, whatever their places are.
use Rattle.std.specs.Prelude.{◌≡◌, ℕ, Bool, List, [], ◌∷◌}
use Rattle.remaster.specs.Common.{flat_map, Chrn, Look, Found, NoMark, NoSector, NoData, BadCrc, content_at}
use Rattle.remaster.specs.declared.looked.LookedField.{LookedField}
use Rattle.remaster.specs.declared.sectors.Sector.{Sector}
use Rattle.remaster.specs.Looked.{AreLooked}

-- a sector with this key, mark and content
abbrev pub sector_of : Chrn → Bool → List ℕ → Sector
sector_of key deleted content = record { key = key; deleted = deleted; content = content }

-- what a look at an address field of the key found
abbrev pub found_by : List ℕ → Chrn → Look → List Sector
found_by track key (Found deleted place) = sector_of key deleted (content_at track place key.n) ∷ []
found_by track key NoMark = []
found_by track key NoSector = []
found_by track key NoData = []
found_by track key BadCrc = []

-- what was found behind an address field
abbrev pub found_at : List ℕ → LookedField → List Sector
found_at track one = found_by track one.field.key one.look

-- the sectors of the track, in order of place: what is found behind its address fields
pub record AreSectors (track : List ℕ) (sectors : List Sector) : Type 0 where
  pub looked : List LookedField
  pub exact : AreLooked track looked
  pub found : sectors ≡ flat_map (found_at track) looked
