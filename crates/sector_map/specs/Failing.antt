-- The keys that aren't found on a disk.
use Rattle.std.specs.Prelude.{◌≡◌, List, [], ◌∷◌, ◌++◌}
use Rattle.sector_map.specs.Common.{Chrn, Disk, Look, Found, NoMark, NoSector, NoData, BadCrc}
use Rattle.sector_map.specs.Disks.{LookOn}

-- a key with the answer of its look, unless the answer is Found
abbrev pub unless_found : Chrn → Look → List (Chrn × Look)
unless_found key (Found deleted place) = []
unless_found key NoMark = (key, NoMark) ∷ []
unless_found key NoSector = (key, NoSector) ∷ []
unless_found key NoData = (key, NoData) ∷ []
unless_found key BadCrc = (key, BadCrc) ∷ []

-- the keys that aren't found, each with the answer of its look, in the order of the keys
abbrev pub AreFailing : Disk → List Chrn → List (Chrn × Look) → Type 0
AreFailing disk [] failed = failed ≡ []
AreFailing disk (key ∷ keys) failed =
    (look : Look) × (rest : List (Chrn × Look)) × LookOn disk key look × (failed ≡ unless_found key look ++ rest)
    × AreFailing disk keys rest
