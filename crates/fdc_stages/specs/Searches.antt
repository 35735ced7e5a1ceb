-- What a search for an address field has heard.
use Rattle.std.specs.Prelude.{◌≡◌, ℕ, ◌+◌, Bool, true, false, MatchBool, Option, Some, None, List, [], ◌∷◌}
use Rattle.fdc_stages.specs.Common.{Chrn, IsAddressAt, HasAddressMark, Separator, EndsInLast, with_word, turn_after}
use Rattle.track_model.specs.Sectors.{HasNoRunWithin}
use Rattle.track_separator.specs.Hunts.{SFollows, SAddressed}
use Rattle.track_separator.specs.Turns.{SBegins}
use Rattle.fdc_stages.specs.declared.ending.Ending.{Ending}
use Rattle.fdc_stages.specs.declared.ending.Ending.TheVariants.{NoMark, NoSector}
use Rattle.fdc_stages.specs.declared.searching.Search.{Search}
use Rattle.fdc_stages.specs.declared.searching.Searched.{Searched}
use Rattle.fdc_stages.specs.declared.searching.Searched.TheVariants as searched
use Rattle.fdc_stages.specs.History.{Past, heard, IsTurnIn, IsJustOver, HasFewTurns}

-- the search wants an address field of this sector ID. Without a wanted sector ID it wants each one
abbrev pub Wants : Option Chrn → Chrn → Type 0
Wants None key = Unit {0}
Wants (Some only) key = key ≡ only

-- the words have no intact address field that is wanted and in which no run begins
abbrev pub HasNoClear : Option Chrn → List ℕ → Type 0
HasNoClear wanted words = (p : ℕ) (key : Chrn) → Wants wanted key → IsAddressAt words p key → HasNoRunWithin words p → ⊥

-- no revolution that was heard has such an address field
abbrev pub HasNoneIn : Option Chrn → List (List ℕ) → List ℕ → Type 0
HasNoneIn wanted turns seen = (words : List ℕ) → IsTurnIn turns seen words → HasNoClear wanted words

-- an address mark was heard
abbrev pub HasMarkIn : List (List ℕ) → List ℕ → Type 0
HasMarkIn turns seen = (words : List ℕ) × IsTurnIn turns seen words × HasAddressMark words

-- whether an index pulse has passed: none for false, one for true
abbrev pub HasTurned : Bool → List (List ℕ) → Type 0
HasTurned false turns = turns ≡ []
HasTurned true turns = (first : List ℕ) × (turns ≡ first ∷ [])

-- a search, with what was heard since it began
pub record IsSearchingIn (turns : List (List ℕ)) (seen : List ℕ) (wanted : Option Chrn) (separator : Separator) (turned marked : Bool) : Type 0 where
  pub follows : SFollows separator seen
  pub none : HasNoneIn wanted turns seen
  pub marks : MatchBool marked (HasMarkIn turns seen) (HasMarkIn turns seen → ⊥)
  pub indexes : HasTurned turned turns

abbrev pub IsSearching : Past → Option Chrn → Search → Type 0
IsSearching past wanted searching =
    IsSearchingIn past.turns past.seen wanted searching.separator searching.turned searching.marked

-- a search after a word in which nothing was met, before an index pulse that follows the word is counted
pub record IsPassed (index : Bool) (past : Past) (word : ℕ) (wanted : Option Chrn) (separator : Separator) (turned marked : Bool) : Type 0 where
  pub follows : SFollows separator (turn_after index past.seen word)
  pub none : HasNoneIn wanted past.turns (with_word past.seen word)
  pub marks : MatchBool marked (HasMarkIn past.turns (with_word past.seen word)) (HasMarkIn past.turns (with_word past.seen word) → ⊥)
  pub indexes : HasTurned turned past.turns

-- the address field at p ended in the last word, and its data field may be asked for
pub record IsMetAt (past : Past) (key : Chrn) (separator : Separator) (p : ℕ) : Type 0 where
  pub address : IsAddressAt past.seen p key
  pub ends : EndsInLast past.seen (p + 160)
  pub asks : SAddressed separator past.seen p
  pub few : HasFewTurns past

-- the address field at p ended in the last word of a revolution
pub record IsMetLast (past : Past) (key : Chrn) (separator : Separator) (turn : List ℕ) (p : ℕ) : Type 0 where
  pub over : IsJustOver past turn
  pub address : IsAddressAt turn p key
  pub ends : EndsInLast turn (p + 160)
  pub begins : SBegins separator

-- an address field of this sector ID ended in the last word. The Bool says whether the index pulse followed the word
abbrev pub IsMet : Bool → Past → Chrn → Separator → Type 0
IsMet false past key separator = (p : ℕ) × IsMetAt past key separator p
IsMet true past key separator = (turn : List ℕ) × (p : ℕ) × IsMetLast past key separator turn p

-- the words are those between the two index pulses that ended a search
pub record IsBetween (past : Past) (words : List ℕ) : Type 0 where
  pub first : List ℕ
  pub turns : past.turns ≡ words ∷ first ∷ []
  pub nothing : past.seen ≡ []

-- the second index pulse has passed, and no revolution has a clear address field that is wanted
pub record HasMissed (past : Past) (wanted : Option Chrn) : Type 0 where
  pub between : List ℕ
  pub is : IsBetween past between
  pub none : HasNoneIn wanted past.turns past.seen

-- how a search ended: without any address mark, or with some but without a wanted address field
abbrev pub IsMissed : Past → Option Chrn → Ending → Type 0
IsMissed past wanted NoMark = HasMissed past wanted × (HasMarkIn past.turns past.seen → ⊥)
IsMissed past wanted NoSector = HasMissed past wanted × HasMarkIn past.turns past.seen
IsMissed past wanted _ = ⊥

-- what a word made of a search: the search goes on, it met the address field of a sector ID, or it missed
pub data SearchOutcome : Type 0 where
  On : Search → SearchOutcome
  Met : Chrn → Separator → SearchOutcome
  Missed : Ending → SearchOutcome

-- the outcome, from the answer and the search after it
abbrev pub search_outcome : Search → Searched → SearchOutcome
search_outcome after searched.On = On after
search_outcome after (searched.Met key) = Met key after.separator
search_outcome after (searched.Missed ending) = Missed ending

-- what holds after a word, by its outcome and by whether the index pulse followed the word
abbrev pub HasSearched : Bool → Past → Option Chrn → SearchOutcome → Type 0
HasSearched index past wanted (On searching) = IsSearching past wanted searching
HasSearched index past wanted (Met key separator) = Wants wanted key × IsMet index past key separator
HasSearched index past wanted (Missed ending) = IsMissed past wanted ending

-- a search misses only in these ways: without an address mark, or with some
abbrev pub IsMiss : Ending → Type 0
IsMiss NoMark = Unit {0}
IsMiss NoSector = Unit {0}
IsMiss _ = ⊥

abbrev pub MissesWell : SearchOutcome → Type 0
MissesWell (Missed ending) = IsMiss ending
MissesWell _ = Unit {0}

-- nothing is seen in the word, and no index pulse follows it, whatever is wanted and was heard before
abbrev pub HearsNothing : ℕ → Search → Search → Type 0
HearsNothing word search next =
    (past : Past) (wanted : Option Chrn) → IsSearching past wanted search → IsSearching (heard false word past) wanted next

-- nothing is seen in any of these words, and no index pulse follows one of them
unfoldable pub HearsNothingIn : List ℕ → Search → Search → Type 0
HearsNothingIn [] search next = next ≡ search
HearsNothingIn (word ∷ rest) search next =
    (mid : Search) × HearsNothing word search mid × HearsNothingIn rest mid next
