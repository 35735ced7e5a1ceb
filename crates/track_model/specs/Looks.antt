-- What a look for a sector's data finds.
use Rattle.std.specs.Prelude.{◌≡◌, ℕ, ◌+◌, ◌<◌, Bool, List}
use Rattle.flop_base.specs.declared.key.Chrn.{Chrn}
use Rattle.track_model.specs.declared.Look.{Look}
use Rattle.track_model.specs.declared.Look.TheVariants.{Found, NoMark, NoSector, NoData, BadCrc}
use Rattle.track_model.specs.Cells.{IsInside}
use Rattle.track_model.specs.Marks.{IsAddressMark}
use Rattle.track_model.specs.Fields.{IsAddressAt, IsDataMark, IsSizeCode, data_cells, content_at, IsWhole}

-- the first of the data marks of an address field
pub record IsFirstDataMark (track : List ℕ) (p q : ℕ) (deleted : Bool) : Type 0 where
  pub mark : IsDataMark track p q deleted
  pub none_before : (k : ℕ) (other : Bool) → k < q → IsDataMark track p k other → ⊥

-- n is a size code, the first data mark is at q, and the data field of that size is inside the track
pub record HasDataField (track : List ℕ) (p n q : ℕ) (deleted : Bool) : Type 0 where
  pub coded : IsSizeCode n
  pub first : IsFirstDataMark track p q deleted
  pub inside : IsInside track q (data_cells n)

-- the data field at q is intact, whatever its content
abbrev pub IsIntact : List ℕ → ℕ → ℕ → Type 0
IsIntact track q n = IsWhole track q n (content_at track (q + 64) n)

-- the answer of a look at the address field at p, for sectors of size code n. Only a search for a key has the last two
-- answers
abbrev pub LookAt : List ℕ → ℕ → ℕ → Look → Type 0
LookAt track p n (Found deleted place) =
    (q : ℕ) × HasDataField track p n q deleted × (place ≡ q + 64) × IsIntact track q n
LookAt track p n BadCrc =
    (q : ℕ) × ((deleted : Bool) × HasDataField track p n q deleted) × (IsIntact track q n → ⊥)
LookAt track p n NoData = (q : ℕ) (deleted : Bool) → HasDataField track p n q deleted → ⊥
LookAt track p n NoSector = ⊥
LookAt track p n NoMark = ⊥

-- the first intact address field of the key
pub record IsFirstAddress (track : List ℕ) (key : Chrn) (p : ℕ) : Type 0 where
  pub address : IsAddressAt track p key
  pub none_before : (k : ℕ) → k < p → IsAddressAt track k key → ⊥

-- the track has an address mark
abbrev pub HasAddressMark : List ℕ → Type 0
HasAddressMark track = (p : ℕ) × IsAddressMark track p

-- the look at the first address field of the key
abbrev pub LookFirst : List ℕ → Chrn → Look → Type 0
LookFirst track key look = (p : ℕ) × IsFirstAddress track key p × LookAt track p key.n look

-- the look for a key on a track
abbrev pub LookFor : List ℕ → Chrn → Look → Type 0
LookFor track key NoMark = HasAddressMark track → ⊥
LookFor track key NoSector = HasAddressMark track × ((p : ℕ) → IsAddressAt track p key → ⊥)
LookFor track key NoData = LookFirst track key NoData
LookFor track key BadCrc = LookFirst track key BadCrc
LookFor track key (Found deleted place) = LookFirst track key (Found deleted place)
