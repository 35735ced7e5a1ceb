-- What a revolution gives when it is fed to a separator.
use Rattle.std.specs.Prelude.{◌≡◌, ℕ, ◌+◌, ◌<◌, ◌≤◌, MatchBool, List, length, take}
use Rattle.sector_map.specs.Common.{Chrn, Found, NoMark, NoSector, NoData, BadCrc, IsAddressAt, content_at, IsFirstAddress, HasAddressMark, LookAt, LookFor, SAddressed}
use Rattle.track_separator.specs.declared.state.Separator.{Separator}
use Rattle.track_separator.specs.Parts.{EndsInLast}
use Rattle.track_separator.specs.Turns.{SBegins}
use Rattle.sector_map.specs.declared.turn.TurnRead.{TurnRead}
use Rattle.sector_map.specs.declared.turn.TurnRead.TheVariants as turned
use Rattle.sector_map.specs.declared.turn.HuntEnd.{HuntEnd}
use Rattle.sector_map.specs.declared.turn.HuntEnd.TheVariants.{Passed, Missed}

-- the first address field of the key ended in the last word that was fed
pub record IsPassed (words : List ℕ) (key : Chrn) (separator : Separator) (count : ℕ) (p : ℕ) : Type 0 where
  pub first : IsFirstAddress words key p
  pub ends : EndsInLast (take count words) (p + 160)
  pub inside : count < length words → SAddressed separator (take count words) p
  pub late : count ≡ length words → SBegins separator

-- how a hunt over a revolution ended
abbrev pub IsHuntOver : List ℕ → Chrn → Separator → HuntEnd → Type 0
IsHuntOver words key separator (Passed count) = (p : ℕ) × IsPassed words key separator count p
IsHuntOver words key separator (Missed has_mark) =
    ((p : ℕ) → IsAddressAt words p key → ⊥) × MatchBool has_mark (HasAddressMark words) (HasAddressMark words → ⊥)

abbrev pub IsPassedWithin : List ℕ → HuntEnd → Type 0
IsPassedWithin words (Passed count) = count ≤ length words
IsPassedWithin words (Missed has_mark) = Unit {0}

-- what was read behind the address field at p
abbrev pub IsReadOver : List ℕ → ℕ → ℕ → List ℕ → TurnRead → Type 0
IsReadOver words p n content (turned.Found deleted) =
    (q : ℕ) × LookAt words p n (Found deleted (q + 64)) × (content ≡ content_at words (q + 64) n)
IsReadOver words p n content turned.BadCrc = LookAt words p n BadCrc
IsReadOver words p n content turned.NoData = LookAt words p n NoData
IsReadOver words p n content _ = ⊥

-- what was read in the revolution is the answer of the look for the key
abbrev pub IsTurnRead : List ℕ → Chrn → List ℕ → TurnRead → Type 0
IsTurnRead words key content (turned.Found deleted) =
    (place : ℕ) × LookFor words key (Found deleted place) × (content ≡ content_at words place key.n)
IsTurnRead words key content turned.NoMark = LookFor words key NoMark
IsTurnRead words key content turned.NoSector = LookFor words key NoSector
IsTurnRead words key content turned.NoData = LookFor words key NoData
IsTurnRead words key content turned.BadCrc = LookFor words key BadCrc
