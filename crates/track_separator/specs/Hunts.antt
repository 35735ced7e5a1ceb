-- A separator that hunts for address marks, and the words fed.
use Rattle.std.specs.Prelude.{◌≡◌, ℕ, ◌+◌, ◌*◌, ◌<◌, ◌≤◌, List, length}
use Rattle.flop_base.specs.declared.key.Chrn.{Chrn}
use Rattle.track_model.specs.Bytes.{byte_at}
use Rattle.track_model.specs.Marks.{IsRun, IsAddressMark}
use Rattle.track_model.specs.Fields.{IsAddressAt, IsAddress}
use Rattle.track_model.specs.Sectors.{HasNoRunWithin}
use Rattle.track_separator.specs.declared.state.Seen.{Seen}
use Rattle.track_separator.specs.declared.state.Seen.TheVariants.{Nothing, Mark, Address}
use Rattle.track_separator.specs.declared.state.Stage.{Stage}
use Rattle.track_separator.specs.declared.state.Stage.TheVariants.{Hunting, Reading, Addressed}
use Rattle.track_separator.specs.declared.state.Separator.{Separator}
use Rattle.track_separator.specs.Register.{HasNoZeroFrom, HasTail, IsFull}
use Rattle.track_separator.specs.Parts.{EndsInLast}

-- a run began at p, and `bytes` bytes behind it have passed
pub record IsAfterRun (fed : List ℕ) (cells p bytes back : ℕ) : Type 0 where
  pub place : p + 48 + 16 * bytes + back ≡ 16 * length fed
  pub few : bytes ≤ 6
  pub run : IsRun fed p
  pub no_zero : HasNoZeroFrom fed p
  pub mark : 1 ≤ bytes → byte_at fed (p + 48) ≡ 0xFE
  pub full : IsFull fed cells p

-- an address field at p ended in the last word, and a data field may be asked for
pub record IsAddressed (fed : List ℕ) (cells back p : ℕ) : Type 0 where
  pub place : p + 160 + back ≡ 16 * length fed
  pub tail : HasTail fed cells
  pub full : IsFull fed cells p

-- what a separator that hunts keeps of the words fed
abbrev pub HuntsIn : List ℕ → ℕ → ℕ → Stage → Type 0
HuntsIn fed cells back Hunting = HasTail fed cells
HuntsIn fed cells back Addressed = (p : ℕ) × IsAddress fed p × IsAddressed fed cells back p
HuntsIn fed cells back (Reading bytes) = HasTail fed cells × ((p : ℕ) × IsAfterRun fed cells p bytes back)
HuntsIn fed cells back _ = ⊥

-- the separator hunts, and what it keeps is of these words
abbrev pub SHunts : Separator → List ℕ → Type 0
SHunts separator fed = HuntsIn fed separator.cells separator.back separator.stage

-- a run at p has passed, and then `bytes` bytes that may be those of an address field; no run began since
pub record IsFollowed (fed : List ℕ) (p bytes own : ℕ) : Type 0 where
  pub place : p + 48 + 16 * bytes + own ≡ 16 * length fed
  pub small : own < 16
  pub few : bytes ≤ 6
  pub run : IsRun fed p
  pub no_zero : HasNoZeroFrom fed p
  pub mark : 1 ≤ bytes → byte_at fed (p + 48) ≡ 0xFE
  pub last : (k : ℕ) → p < k → IsRun fed k → ⊥

-- the separator hunts, and has hunted since these words began; whatever may become an address field, it is reading
pub record FollowsIn (fed : List ℕ) (cells back : ℕ) (stage : Stage) : Type 0 where
  pub hunts : HuntsIn fed cells back stage
  pub full : IsFull fed cells 0
  pub followed : (p bytes own : ℕ) → IsFollowed fed p bytes own → (stage ≡ Reading bytes) × (back ≡ own)

abbrev pub SFollows : Separator → List ℕ → Type 0
SFollows separator fed = FollowsIn fed separator.cells separator.back separator.stage

-- what an event of the hunt stands for, in the word of its last cell; no other event comes
abbrev pub Stands : List ℕ → Seen → Type 0
Stands fed Nothing = Unit {0}
Stands fed Mark = (p : ℕ) × EndsInLast fed (p + 64) × IsAddressMark fed p
Stands fed (Address key) = (p : ℕ) × EndsInLast fed (p + 160) × IsAddressAt fed p key
Stands fed _ = ⊥

-- the address field that ended in the last word is the one at p
abbrev pub AddressedIn : List ℕ → ℕ → ℕ → ℕ → Stage → Type 0
AddressedIn fed cells back p Addressed = IsAddressed fed cells back p
AddressedIn fed cells back p _ = ⊥

abbrev pub SAddressed : Separator → List ℕ → ℕ → Type 0
SAddressed separator fed p = AddressedIn fed separator.cells separator.back p separator.stage

-- what an event of the hunt stands for; for an Address, also that the separator stands at the end of its field
abbrev pub HuntSeenIn : List ℕ → ℕ → ℕ → Stage → Seen → Type 0
HuntSeenIn fed cells back stage Nothing = Unit {0}
HuntSeenIn fed cells back stage Mark = (p : ℕ) × EndsInLast fed (p + 64) × IsAddressMark fed p
HuntSeenIn fed cells back stage (Address key) =
    (p : ℕ) × EndsInLast fed (p + 160) × IsAddressAt fed p key × AddressedIn fed cells back p stage
HuntSeenIn fed cells back stage _ = ⊥

abbrev pub SHuntSeen : List ℕ → Separator → Seen → Type 0
SHuntSeen fed separator seen = HuntSeenIn fed separator.cells separator.back separator.stage seen

-- an address mark that ends in the last word is the event, and so is an intact address field in which no run begins
pub record GivesAll (fed : List ℕ) (seen : Seen) : Type 0 where
  pub mark : (p : ℕ) → EndsInLast fed (p + 64) → IsAddressMark fed p → seen ≡ Mark
  pub address : (p : ℕ) (key : Chrn) → EndsInLast fed (p + 160) → IsAddressAt fed p key → HasNoRunWithin fed p → seen ≡ Address key

-- ---- a byte that has come into the register

-- a byte of a field that may be an address field is the last in the register
pub record IsAtByte (fed : List ℕ) (cells p bytes back : ℕ) : Type 0 where
  pub place : p + 64 + 16 * bytes + back ≡ 16 * length fed
  pub few : bytes ≤ 6
  pub small : back < 16
  pub run : IsRun fed p
  pub no_zero : HasNoZeroFrom fed p
  pub mark : 1 ≤ bytes → byte_at fed (p + 48) ≡ 0xFE
  pub full : IsFull fed cells p
  pub tail : HasTail fed cells

-- what the separator made of that byte
pub record IsByteTaken (fed : List ℕ) (p bytes back cells after : ℕ) (stage : Stage) (seen : Seen) : Type 0 where
  pub hunts : HuntsIn fed cells after stage
  pub tells : HuntSeenIn fed cells after stage seen
  pub goes : bytes < 6 → byte_at fed (p + 48) ≡ 0xFE → (stage ≡ Reading (bytes + 1)) × (after ≡ back)
  pub is_mark : bytes ≡ 0 → byte_at fed (p + 48) ≡ 0xFE → seen ≡ Mark
  pub is_address : (key : Chrn) → bytes ≡ 6 → IsAddressAt fed p key → seen ≡ Address key
