-- Tracks without an address field of a key.
use Rattle.std.specs.Prelude.{ℕ, List}
use Rattle.sector_map.specs.Common.{Chrn, IsAddressAt, HasAddressMark}
use Rattle.sector_map.specs.declared.looking.Absent.{Absent}
use Rattle.sector_map.specs.declared.looking.Absent.TheVariants.{NoMark, NoSector}

-- whether the track has an address mark, as the answer says
abbrev pub TellsOfMarks : List ℕ → Absent → Type 0
TellsOfMarks track NoMark = HasAddressMark track → ⊥
TellsOfMarks track NoSector = HasAddressMark track

-- the track has no address field of the key, and the answer says whether it has an address mark
pub record IsWithout (track : List ℕ) (key : Chrn) (absent : Absent) : Type 0 where
  pub none : (p : ℕ) → IsAddressAt track p key → ⊥
  pub marks : TellsOfMarks track absent
