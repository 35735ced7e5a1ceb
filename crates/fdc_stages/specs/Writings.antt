-- What a writing has heard and written.
use Rattle.std.specs.Prelude.{◌≡◌, ◌⊎◌, ℕ, zero, suc, ◌+◌, ◌<◌, ◌≤◌, Bool, true, false, Option, None, Some, List, [], ◌++◌, length}
use Rattle.fdc_stages.specs.Common.{Chrn, IsAddressAt, content_size, with_items, window, with_word, IsPart}
use Rattle.track_model.specs.Windows.{window_word, window_words, IsFieldFor, IsCut}
use Rattle.track_model.specs.Laid.{with_window}
use Rattle.fdc_stages.specs.declared.window.Window.{Window}
use Rattle.fdc_stages.specs.Windows as windowed
use Rattle.fdc_stages.specs.Windows.{window_behind, words_behind, bytes_behind, bytes_left, count_behind, count_left, lead_left}
use Rattle.fdc_stages.specs.declared.ending.Ending.{Ending}
use Rattle.fdc_stages.specs.declared.ending.Ending.TheVariants.{Done, NoMark, NoSector, NoField, BadCheck, Overrun, NoCount, Protected, Late}
use Rattle.fdc_stages.specs.History.{Past, heard, kept_out, IsJustOver}
use Rattle.fdc_stages.specs.Searches.{IsSearchingIn, IsMissed}
use Rattle.fdc_stages.specs.declared.writing.WriteStage.{WriteStage}
use Rattle.fdc_stages.specs.declared.writing.WriteStage.TheVariants as stage
use Rattle.fdc_stages.specs.declared.writing.WriteNext.{WriteNext}
use Rattle.fdc_stages.specs.declared.writing.WriteNext.TheVariants as next

-- ---- the stages

-- the write gate is open
abbrev pub is_open : WriteStage → Bool
is_open (stage.Window _) = true
is_open _ = false

-- the write gate is to be opened before the next word
abbrev pub opens : WriteStage → Bool
opens (stage.Gap zero) = true
opens _ = false

-- the address field is searched for
abbrev pub is_search : WriteStage → Bool
is_search (stage.Search _) = true
is_search _ = false

-- the next word is one of the window
abbrev pub is_due : WriteStage → Bool
is_due (stage.Search _) = false
is_due (stage.Gap zero) = true
is_due (stage.Gap (suc _)) = false
is_due (stage.Window _) = true

-- the next word is a byte of the content
abbrev pub needs_byte : WriteStage → Bool
needs_byte (stage.Window now) = windowed.needs_byte now
needs_byte _ = false

-- at least how many words pass before a byte of the content is needed. If no more bytes are needed, the number is 16
abbrev pub lead_of : WriteStage → ℕ
lead_of (stage.Search _) = 39
lead_of (stage.Gap left) = left + 16
lead_of (stage.Window now) = lead_left now

-- the next word is the last of the window
abbrev pub is_last : WriteStage → Bool
is_last (stage.Window now) = windowed.is_last now
is_last _ = false

-- how many words pass up to the last of the window, and how many of them are bytes of the content, which has this many.
-- In a search nothing is said
abbrev pub count_ahead : ℕ → WriteStage → ℕ
count_ahead size (stage.Search _) = 0
count_ahead size (stage.Gap left) = left + (size + 18)
count_ahead size (stage.Window now) = count_left now

abbrev pub bytes_ahead : ℕ → WriteStage → ℕ
bytes_ahead size (stage.Search _) = 0
bytes_ahead size (stage.Gap _) = size
bytes_ahead size (stage.Window now) = bytes_left now

-- what is left of the window after a word: nothing if that word was the last
abbrev pub rest_behind : Bool → WriteStage → Option Window
rest_behind last (stage.Window after) = window_behind last after
rest_behind last _ = None

-- ---- what has passed

-- the content that was handed in, with the byte if one was needed
abbrev pub handed_with : Bool → ℕ → List ℕ → List ℕ
handed_with true byte handed = with_word handed byte
handed_with false byte handed = handed

-- a word was heard. The first Bool says whether it came in place of the first word of the window, or before that
abbrev pub heard_where : Bool → Bool → ℕ → Past → Past
heard_where true index word past = kept_out index word past
heard_where false index word past = heard index word past

-- the window of the address field of this sector ID at p begins after this many words more
pub record IsBefore (seen : List ℕ) (key : Chrn) (left p : ℕ) : Type 0 where
  pub address : IsAddressAt seen p key
  pub place : length seen + left ≡ window_word p

-- the words are the first of the window of the address field of this sector ID at p, and stand at its place. `behind`
-- gives the other words, for each rest of the content after what was handed in
pub record IsInWindow (seen words : List ℕ) (key : Chrn) (deleted : Bool) (handed : List ℕ) (behind : Option Window) (p : ℕ) : Type 0 where
  pub address : IsAddressAt seen p key
  pub place : length seen ≡ window_word p
  pub count : length words + count_behind behind ≡ window_words key.n
  pub bytes : length handed + bytes_behind behind ≡ content_size key.n
  pub goes_on : (rest : List ℕ) → length rest ≡ bytes_behind behind
      → words ++ words_behind behind rest ≡ window deleted (handed ++ rest)

-- nothing was handed in or written
abbrev pub IsUnwritten : List ℕ → List ℕ → Type 0
IsUnwritten words handed = (words ≡ []) × (handed ≡ [])

abbrev pub IsAtStage : List (List ℕ) → List ℕ → List ℕ → Chrn → Bool → List ℕ → WriteStage → Type 0
IsAtStage turns seen words key deleted handed (stage.Search searching) =
    IsSearchingIn turns seen (Some key) searching.separator searching.turned searching.marked × IsUnwritten words handed
IsAtStage turns seen words key deleted handed (stage.Gap left) = ((p : ℕ) × IsBefore seen key left p) × IsUnwritten words handed
IsAtStage turns seen words key deleted handed (stage.Window now) =
    ((p : ℕ) × IsInWindow seen words key deleted handed (Some now) p) × (1 ≤ length words)

-- a writing at its stage, with what was heard and written since it began, and the content that was handed in
abbrev pub IsWriting : Past → Chrn → Bool → List ℕ → WriteStage → Type 0
IsWriting past key deleted handed now =
    (past.place ≡ length past.seen + length past.words) × IsAtStage past.turns past.seen past.words key deleted handed now

-- the word is the next of the window, and `behind` gives the other words
abbrev pub IsNextWord : Past → Chrn → Bool → List ℕ → ℕ → Option Window → Type 0
IsNextWord past key deleted handed word behind =
    (past.place ≡ length past.seen + length past.words)
    × ((p : ℕ) × IsInWindow past.seen (with_word past.words word) key deleted handed behind p)

-- ---- how it ends

-- the words are the first of these
abbrev pub IsFirstOf : List ℕ → List ℕ → Type 0
IsFirstOf words whole = (others : List ℕ) × (whole ≡ words ++ others)

-- the words are the first of the window of the address field of this sector ID at p, and stand at its place. This holds
-- for each content that begins with what was handed in
pub record IsBegun (seen words : List ℕ) (key : Chrn) (deleted : Bool) (handed : List ℕ) (p : ℕ) : Type 0 where
  pub address : IsAddressAt seen p key
  pub place : length seen ≡ window_word p
  pub some : 1 ≤ length words
  pub few : length handed ≤ content_size key.n
  pub first : (rest : List ℕ) → length handed + length rest ≡ content_size key.n → IsFirstOf words (window deleted (handed ++ rest))

-- nothing was written, or the words written are such words
abbrev pub HasBegun : Past → Chrn → Bool → List ℕ → Type 0
HasBegun past key deleted handed =
    IsUnwritten past.words handed ⊎ ((p : ℕ) × IsBegun past.seen past.words key deleted handed p)

-- the words are the whole window of the address field of this sector ID at p, and stand at its place. The content is
-- what was handed in
pub record IsWhole (seen words : List ℕ) (key : Chrn) (deleted : Bool) (handed : List ℕ) (p : ℕ) : Type 0 where
  pub address : IsAddressAt seen p key
  pub place : length seen ≡ window_word p
  pub size : length handed ≡ content_size key.n
  pub whole : words ≡ window deleted handed

abbrev pub HasWhole : Past → Chrn → Bool → List ℕ → Type 0
HasWhole past key deleted handed = (p : ℕ) × IsWhole past.seen past.words key deleted handed p

-- the revolution that is over has an address field of this sector ID at p, whose window begins at the index pulse or
-- after it
pub record IsBehindIndex (past : Past) (key : Chrn) (turn : List ℕ) (p : ℕ) : Type 0 where
  pub over : IsJustOver past turn
  pub address : IsAddressAt turn p key
  pub behind : length turn ≤ window_word p

-- the index pulse came after the words written, which aren't the whole window of the address field of this sector ID at
-- p
pub record IsCutShort (past : Past) (key : Chrn) (p : ℕ) : Type 0 where
  pub index : past.place ≡ 0
  pub some : 1 ≤ length past.words
  pub address : IsAddressAt past.seen p key
  pub few : length past.words < window_words key.n

-- no window was written, or not the whole one. The index pulse came before the window or in it, or the write gate could
-- not be opened
abbrev pub HasNoWindow : Past → Chrn → Type 0
HasNoWindow past key =
    ((past.words ≡ []) × ((turn : List ℕ) × (p : ℕ) × IsBehindIndex past key turn p))
    ⊎ (((p : ℕ) × IsCutShort past key p)
    ⊎ ((past.words ≡ []) × (past.barred ≡ true)))

-- the cause of each ending of a writing
abbrev pub HasCause : Past → Chrn → Bool → List ℕ → Ending → Type 0
HasCause past key deleted handed (Done marked) = (marked ≡ false) × (past.counted ≡ true) × HasWhole past key deleted handed
HasCause past key deleted handed NoCount = (past.counted ≡ false) × HasWhole past key deleted handed
HasCause past key deleted handed NoField = HasNoWindow past key
HasCause past key deleted handed NoMark = (past.words ≡ []) × IsMissed past (Some key) NoMark
HasCause past key deleted handed NoSector = (past.words ≡ []) × IsMissed past (Some key) NoSector
HasCause past key deleted handed Overrun = past.counted ≡ false
HasCause past key deleted handed Late = past.steps ≡ 65536
HasCause past key deleted handed Protected = past.words ≡ []
HasCause past key deleted handed BadCheck = ⊥

-- a writing that ended, with the content that was handed in
pub record HasWritten (past : Past) (key : Chrn) (deleted : Bool) (handed : List ℕ) (ending : Ending) : Type 0 where
  pub begun : HasBegun past key deleted handed
  pub cause : HasCause past key deleted handed ending

-- what a word that was heard gave a writing: its stage after the word, or how the writing ended
abbrev pub write_heard : WriteStage → Option Ending → WriteNext
write_heard after None = next.On after
write_heard after (Some ending) = next.Ended ending

-- what holds after a word, by what the word gave the writing
abbrev pub HasNext : Past → Chrn → Bool → List ℕ → WriteNext → Type 0
HasNext past key deleted handed (next.On now) = IsWriting past key deleted handed now
HasNext past key deleted handed (next.Ended ending) = HasWritten past key deleted handed ending

-- if a word that is heard ends a writing, it ends in one of these ways
abbrev pub IsFailure : Ending → Type 0
IsFailure NoMark = Unit {0}
IsFailure NoSector = Unit {0}
IsFailure NoField = Unit {0}
IsFailure _ = ⊥

abbrev pub FailsWell : WriteNext → Type 0
FailsWell (next.Ended ending) = IsFailure ending
FailsWell _ = Unit {0}

-- if a word that was written ends a writing, it ends in one of these ways
abbrev pub IsEnd : Ending → Type 0
IsEnd (Done marked) = marked ≡ false
IsEnd NoCount = Unit {0}
IsEnd NoField = Unit {0}
IsEnd _ = ⊥

abbrev pub EndsWell : WriteNext → Type 0
EndsWell (next.Ended ending) = IsEnd ending
EndsWell _ = Unit {0}

-- with one word, the number of words that pass before a byte is needed falls by at most one
abbrev pub LeadsOn : ℕ → WriteNext → Type 0
LeadsOn before (next.On now) = before ≤ lead_of now + 1
LeadsOn before (next.Ended _) = Unit {0}

-- what stops a command from outside: a byte is missing and the terminal count hasn't come, the number of steps is
-- reached, or the medium is protected and nothing was written
abbrev pub IsStopped : Past → Ending → Type 0
IsStopped past Overrun = past.counted ≡ false
IsStopped past Late = past.steps ≡ 65536
IsStopped past Protected = past.words ≡ []
IsStopped past _ = ⊥

-- each track that begins with the words heard has the address field of this sector ID at p. The words written after
-- these are a cut of the field's window with this content
pub record WritesCut (past : Past) (key : Chrn) (deleted : Bool) (content : List ℕ) (p : ℕ) : Type 0 where
  pub field : (track : List ℕ) → IsPart past.seen track → IsFieldFor track p key content
  pub cut : (track : List ℕ) → length past.seen + length past.words ≤ length track
      → IsCut track (with_items track (length past.seen) past.words) p (length past.words) (window deleted content)

-- the words written are such a cut for each content of the sector's size that begins with what was handed in. So they
-- hold no byte of the content that wasn't handed in
pub record WritesCuts (past : Past) (key : Chrn) (deleted : Bool) (handed : List ℕ) (p : ℕ) : Type 0 where
  pub few : length handed ≤ content_size key.n
  pub cuts : (rest : List ℕ) → length handed + length rest ≡ content_size key.n → WritesCut past key deleted (handed ++ rest) p

-- nothing was written, or the words written are such cuts
abbrev pub WritesFirst : Past → Chrn → Bool → List ℕ → Type 0
WritesFirst past key deleted handed = (past.words ≡ []) ⊎ ((p : ℕ) × WritesCuts past key deleted handed p)

-- the terminal count came, and the words are the whole window of the address field at p, at its place. The content is
-- what was handed in
pub record WritesWindow (past : Past) (key : Chrn) (deleted : Bool) (handed : List ℕ) (p : ℕ) : Type 0 where
  pub counted : past.counted ≡ true
  pub words : past.words ≡ window deleted handed
  pub field : (track : List ℕ) → IsPart past.seen track → IsFieldFor track p key handed
  pub written : (track : List ℕ) → with_items track (length past.seen) past.words ≡ with_window track p deleted handed

abbrev pub WritesWhole : Past → Chrn → Bool → List ℕ → Type 0
WritesWhole past key deleted handed = (p : ℕ) × WritesWindow past key deleted handed p
