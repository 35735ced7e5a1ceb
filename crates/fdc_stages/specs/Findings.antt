-- What the ending of a reading says of the words heard.
use Rattle.std.specs.Prelude.{◌≡◌, ◌⊎◌, ℕ, ◌+◌, Bool, true, Option, None, List, ◌++◌, length}
use Rattle.fdc_stages.specs.Common.{Chrn, IsAddressAt, content_size, content_at, HasAddressMark, LookAt, IsPart}
use Rattle.track_model.specs.declared.Look.TheVariants.{Found, NoData, BadCrc}
use Rattle.fdc_stages.specs.declared.ending.Ending.{Ending}
use Rattle.fdc_stages.specs.declared.ending.Ending.TheVariants.{Done, NoMark, NoSector, Late}
use Rattle.fdc_stages.specs.History.{Past, IsTurn, IsJustOver}
use Rattle.fdc_stages.specs.Searches.{HasNoClear, HasMarkIn, IsBetween, IsMissed}

-- a revolution has the sector at p, with its data mark at q. The bytes given are the first of its content; if they are
-- as many as its size, they are the whole content
pub record IsFoundAt (past : Past) (key : Chrn) (given : List ℕ) (deleted : Bool) (turn : List ℕ) (p q : ℕ) : Type 0 where
  pub among : IsTurn past turn
  pub address : IsAddressAt turn p key
  pub finds : LookAt turn p key.n (Found deleted (q + 64))
  pub begins : (rest : List ℕ) × (content_at turn (q + 64) key.n ≡ given ++ rest)
  pub content : length given ≡ content_size key.n → given ≡ content_at turn (q + 64) key.n

-- the terminal count came, and the sector was found
abbrev pub FindsSector : Past → Chrn → List ℕ → Bool → Type 0
FindsSector past key given deleted =
    (past.counted ≡ true) × ((turn : List ℕ) × (p : ℕ) × (q : ℕ) × IsFoundAt past key given deleted turn p q)

-- a revolution that was heard has an address field of this sector ID at p
pub record HasAddressIn (past : Past) (turn : List ℕ) (key : Chrn) (p : ℕ) : Type 0 where
  pub among : IsTurn past turn
  pub address : IsAddressAt turn p key

-- some revolution that was heard has an address field of this sector ID
abbrev pub HasAddress : Past → Chrn → Type 0
HasAddress past key = (turn : List ℕ) × (p : ℕ) × HasAddressIn past turn key p

-- how a READ ID ended. Done: the sector ID is that of an address field in the words heard. NoMark: no address mark was
-- heard. NoSector: no intact address field was met. Late: the command took too long
abbrev pub HasIdentified : Past → Chrn → Ending → Type 0
HasIdentified past key (Done deleted) = HasAddress past key
HasIdentified past key NoMark = IsMissed past None NoMark
HasIdentified past key NoSector = IsMissed past None NoSector
HasIdentified past key Late = past.steps ≡ 65536
HasIdentified past key _ = ⊥

-- a revolution has an address field of this sector ID, and its data field isn't whole
abbrev pub FindsBadCheck : Past → Chrn → Type 0
FindsBadCheck past key = (turn : List ℕ) × (p : ℕ) × HasAddressIn past turn key p × LookAt turn p key.n BadCrc

-- however the revolution goes on, the address field of this sector ID at p has no data field
abbrev pub IsWithoutData : List ℕ → Chrn → ℕ → Type 0
IsWithoutData seen key p = (whole : List ℕ) → IsPart seen whole → IsAddressAt whole p key × LookAt whole p key.n NoData

-- an address field of this sector ID has no data field, either in the revolution that is over, or however its
-- revolution goes on
abbrev pub FindsNoField : Past → Chrn → Type 0
FindsNoField past key =
    ((turn : List ℕ) × (p : ℕ) × IsJustOver past turn × IsAddressAt turn p key × LookAt turn p key.n NoData)
    ⊎ ((p : ℕ) × IsWithoutData past.seen key p)

-- between the two index pulses no address mark was heard
abbrev pub FindsNoMark : Past → Type 0
FindsNoMark past = (between : List ℕ) × IsBetween past between × (HasAddressMark between → ⊥)

-- an address mark was heard, but between the two index pulses no clear address field that is wanted
abbrev pub FindsNoSector : Past → Option Chrn → Type 0
FindsNoSector past wanted =
    HasMarkIn past.turns past.seen × ((between : List ℕ) × IsBetween past between × HasNoClear wanted between)
