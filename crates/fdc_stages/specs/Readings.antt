-- What a reading has heard and reported.
use Rattle.std.specs.Prelude.{◌≡◌, ◌⊎◌, ℕ, ◌+◌, ◌*◌, ◌≤◌, Bool, true, false, Option, None, Some, List, [], ◌∷◌, ◌++◌, min, length}
use Rattle.fdc_stages.specs.Common.{Chrn, bytes_at, IsAddressAt, content_size, IsFirstDataMark, LookAt, Separator}
use Rattle.track_model.specs.declared.Look.TheVariants as look
use Rattle.track_separator.specs.Waits.{SWaits, SReads, EndsReach, HasNoDataMark, HasEnded, TellsWhole}
use Rattle.fdc_stages.specs.declared.ending.Ending.{Ending}
use Rattle.fdc_stages.specs.declared.ending.Ending.TheVariants.{Done, NoMark, NoSector, NoField, BadCheck, Overrun, NoCount, Protected, Late}
use Rattle.fdc_stages.specs.declared.reading.ReadStage.{ReadStage}
use Rattle.fdc_stages.specs.declared.reading.ReadStage.TheVariants.{Search, Wait, Content, Over}
use Rattle.fdc_stages.specs.declared.reading.ReadHeard.{ReadHeard}
use Rattle.fdc_stages.specs.declared.reading.ReadHeard.TheVariants as given
use Rattle.fdc_stages.specs.History.{Past, heard, IsTurn, IsJustOver, HasFewTurns}
use Rattle.fdc_stages.specs.Searches.{IsSearching, IsMissed}

-- the bytes are all of those reported. After the terminal count, they are the first of those reported
abbrev pub IsStart : Bool → List ℕ → List ℕ → Type 0
IsStart false bytes told = bytes ≡ told
IsStart true bytes told = (rest : List ℕ) × (told ≡ bytes ++ rest)

-- the data mark of the address field at p is awaited
pub record IsWaitingAt (past : Past) (key : Chrn) (separator : Separator) (p : ℕ) : Type 0 where
  pub address : IsAddressAt past.seen p key
  pub waits : SWaits separator past.seen p (content_size key.n)
  pub few : HasFewTurns past

-- the data field at q of the address field at p is read, and these bytes of its content were reported
pub record IsContentAt (past : Past) (key : Chrn) (told : List ℕ) (separator : Separator) (deleted : Bool) (p q taken : ℕ) : Type 0 where
  pub address : IsAddressAt past.seen p key
  pub reads : SReads separator past.seen p q deleted (content_size key.n) taken
  pub bytes : told ≡ bytes_at past.seen (q + 64) (min taken (content_size key.n))
  pub few : HasFewTurns past

-- a revolution has an address field of this sector ID at p and its data field at q. The data field is over, and its
-- content was reported
pub record IsFieldOver (turn : List ℕ) (key : Chrn) (told : List ℕ) (deleted good : Bool) (p q : ℕ) : Type 0 where
  pub address : IsAddressAt turn p key
  pub ended : HasEnded turn p q deleted (content_size key.n)
  pub tells : TellsWhole turn q (content_size key.n) good
  pub bytes : told ≡ bytes_at turn (q + 64) (content_size key.n)

abbrev pub IsOver : Past → Chrn → List ℕ → Bool → Bool → Type 0
IsOver past key told deleted good =
    (turn : List ℕ) × IsTurn past turn × ((p : ℕ) × (q : ℕ) × IsFieldOver turn key told deleted good p q)

-- a reading at its stage, with what was heard since it began, and the bytes that it reported
abbrev pub IsReading : Past → Chrn → List ℕ → ReadStage → Type 0
IsReading past key told (Search searching) = IsSearching past (Some key) searching × (told ≡ [])
IsReading past key told (Wait separator) = ((p : ℕ) × IsWaitingAt past key separator p) × (told ≡ [])
IsReading past key told (Content separator deleted) =
    (p : ℕ) × (q : ℕ) × (taken : ℕ) × IsContentAt past key told separator deleted p q taken
IsReading past key told (Over deleted good) = IsOver past key told deleted good

-- the bytes are the first after the first data mark of an address field of this sector ID
pub record IsToldFrom (turn : List ℕ) (key : Chrn) (told : List ℕ) (p q count : ℕ) (deleted : Bool) : Type 0 where
  pub address : IsAddressAt turn p key
  pub mark : IsFirstDataMark turn p q deleted
  pub most : count ≤ content_size key.n
  pub inside : q + 64 + 16 * count ≤ 16 * length turn
  pub bytes : told ≡ bytes_at turn (q + 64) count

-- nothing was reported, or the bytes reported are such bytes of one revolution
abbrev pub IsToldOf : Past → Chrn → List ℕ → Type 0
IsToldOf past key told =
    (told ≡ [])
    ⊎ ((turn : List ℕ) × IsTurn past turn
    × ((p : ℕ) × (q : ℕ) × (count : ℕ) × (deleted : Bool) × IsToldFrom turn key told p q count deleted))

-- an address field of this sector ID, in the revolution that is over, has no data field in that revolution
pub record IsCutField (past : Past) (key : Chrn) (turn : List ℕ) (p : ℕ) : Type 0 where
  pub over : IsJustOver past turn
  pub address : IsAddressAt turn p key
  pub none : LookAt turn p key.n look.NoData

-- an address field of this sector ID has no data mark, however its revolution goes on
pub record IsBareField (past : Past) (key : Chrn) (p : ℕ) : Type 0 where
  pub address : IsAddressAt past.seen p key
  pub none : HasNoDataMark past.seen p
  pub reach : EndsReach past.seen p

abbrev pub HasNoField : Past → Chrn → Type 0
HasNoField past key = ((turn : List ℕ) × (p : ℕ) × IsCutField past key turn p) ⊎ ((p : ℕ) × IsBareField past key p)

-- the cause of each ending of a reading
abbrev pub HasCause : Past → Chrn → List ℕ → Ending → Type 0
HasCause past key told (Done deleted) = (past.counted ≡ true) × IsOver past key told deleted true
HasCause past key told NoCount = (past.counted ≡ false) × ((deleted : Bool) × IsOver past key told deleted true)
HasCause past key told BadCheck = (deleted : Bool) × IsOver past key told deleted false
HasCause past key told NoField = HasNoField past key
HasCause past key told NoMark = IsMissed past (Some key) NoMark
HasCause past key told NoSector = IsMissed past (Some key) NoSector
HasCause past key told Overrun = past.counted ≡ false
HasCause past key told Late = past.steps ≡ 65536
HasCause past key told Protected = ⊥

-- a reading that ended, with the bytes that it reported
pub record HasRead (past : Past) (key : Chrn) (told : List ℕ) (ending : Ending) : Type 0 where
  pub bytes : IsToldOf past key told
  pub cause : HasCause past key told ending

-- what a word made of a reading: it goes on at a stage, with a byte of the content or without one, or it failed
pub data ReadOutcome : Type 0 where
  On : ReadStage → ReadOutcome
  Byte : ReadStage → ℕ → ReadOutcome
  Ended : Ending → ReadOutcome

-- the outcome, from the answer and the stage after it
abbrev pub read_outcome : ReadStage → ReadHeard → ReadOutcome
read_outcome after given.On = On after
read_outcome after (given.Byte value) = Byte after value
read_outcome after (given.Ended ending) = Ended ending

-- what holds after a word, by its outcome
abbrev pub HasHeard : Past → Chrn → List ℕ → ReadOutcome → Type 0
HasHeard past key told (On stage) = IsReading past key told stage
HasHeard past key told (Byte stage value) = IsReading past key (told ++ value ∷ []) stage
HasHeard past key told (Ended ending) = HasRead past key told ending

-- a word ends a reading only in these ways: a search misses, or there is no data field
abbrev pub IsFailure : Ending → Type 0
IsFailure NoMark = Unit {0}
IsFailure NoSector = Unit {0}
IsFailure NoField = Unit {0}
IsFailure _ = ⊥

abbrev pub FailsWell : ReadOutcome → Type 0
FailsWell (Ended ending) = IsFailure ending
FailsWell _ = Unit {0}

-- the data mark, once it is met: true for F8
abbrev pub mark_at : ReadStage → Option Bool
mark_at (Content separator deleted) = Some deleted
mark_at (Over deleted good) = Some deleted
mark_at _ = None

-- a reading that goes on has met this data mark
abbrev pub HasMark : Bool → ReadOutcome → Type 0
HasMark deleted (On stage) = mark_at stage ≡ Some deleted
HasMark deleted (Byte stage value) = mark_at stage ≡ Some deleted
HasMark deleted (Ended ending) = Unit {0}

-- the data mark that was met stays the same
abbrev pub KeepsMark : ReadStage → ReadOutcome → Type 0
KeepsMark (Content separator deleted) after = HasMark deleted after
KeepsMark (Over deleted good) after = HasMark deleted after
KeepsMark _ after = Unit {0}

-- a word of a search in which nothing is seen, and after which no index pulse comes, whatever was heard before
abbrev pub PassesBy : ℕ → ReadStage → ReadStage → Type 0
PassesBy word stage next =
    ((past : Past) (key : Chrn) (told : List ℕ) → IsReading past key told stage → IsReading (heard false word past) key told next)
    × KeepsMark stage (On next)

-- the content of a data field is read
abbrev pub IsContent : ReadStage → Type 0
IsContent (Content separator deleted) = Unit {0}
IsContent _ = ⊥

-- all bytes of the content were reported
abbrev pub IsWhole : ReadStage → Type 0
IsWhole stage =
    (past : Past) (key : Chrn) (told : List ℕ) → IsReading past key told stage → content_size key.n ≤ length told

-- a word of a content, which gives this byte, and after which no index pulse comes, whatever was heard before
pub record HearsByte (word value : ℕ) (stage next : ReadStage) : Type 0 where
  pub gives : (past : Past) (key : Chrn) (told : List ℕ) → IsReading past key told stage → IsReading (heard false word past) key (told ++ value ∷ []) next
  pub mark : KeepsMark stage (Byte next value)
  pub same : mark_at next ≡ mark_at stage
  pub content : IsContent next

-- words of a content, and the bytes that they give
unfoldable pub HearsBytes : List ℕ → List ℕ → ReadStage → ReadStage → Type 0
HearsBytes [] bytes stage next = (bytes ≡ []) × (next ≡ stage)
HearsBytes (word ∷ words) bytes stage next =
    (value : ℕ) × (more : List ℕ) × (mid : ReadStage) × (bytes ≡ value ∷ more) × HearsByte word value stage mid
    × HearsBytes words more mid next
