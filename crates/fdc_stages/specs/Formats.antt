-- What a format has heard and written.
use Rattle.std.specs.Prelude.{◌≡◌, ◌⊎◌, ◌↔◌, ℕ, zero, suc, ◌+◌, ◌*◌, ◌≤◌, Bool, true, false, IsTrue, Option, None, Some, List, [], ◌∷◌, ◌++◌, length, drop, slice_index}
use Rattle.std.specs.List.{flat_map}
use Rattle.fdc_stages.specs.Common.{Chrn, with_items, with_word, FormatStream}
use Rattle.track_model.specs.declared.symbol.Symbol.{Symbol}
use Rattle.track_model.specs.Layouts.{recorded, track_symbols, lay, Fits}
use Rattle.track_format.specs.Keys.{key_bytes, asked_in}
use Rattle.track_format.specs.Streams.{Gives, AsksKey, filled}
use Rattle.fdc_stages.specs.declared.ending.Ending.{Ending}
use Rattle.fdc_stages.specs.declared.ending.Ending.TheVariants.{Done, NoMark, NoSector, NoField, BadCheck, Overrun, NoCount, Protected, Late}
use Rattle.fdc_stages.specs.History.{Past}
use Rattle.fdc_stages.specs.Searches.{IsBetween}
use Rattle.fdc_stages.specs.Writings.{IsFirstOf}
use Rattle.fdc_stages.specs.declared.formatting.FormatPart.{FormatPart}
use Rattle.fdc_stages.specs.declared.formatting.FormatPart.TheVariants.{Await, Due, Lay, Barred}
use Rattle.fdc_stages.specs.declared.formatting.FormatStage.{FormatStage}
use Rattle.fdc_stages.specs.declared.formatting.FormatEnd.{FormatEnd}
use Rattle.fdc_stages.specs.declared.formatting.FormatNext.{FormatNext}
use Rattle.fdc_stages.specs.declared.formatting.FormatNext.TheVariants as next

-- the numbers of a format: the size code, the number of sectors, gap 3, and the byte that fills the sectors
pub record Numbers : Type 0 where
  pub n : ℕ
  pub sectors : ℕ
  pub gap3 : ℕ
  pub fill : ℕ

-- ---- the stages

abbrev pub is_laying : FormatPart → Bool
is_laying Lay = true
is_laying _ = false

-- the write gate is open
abbrev pub is_open : FormatStage → Bool
is_open now = is_laying now.part

abbrev pub is_first : FormatPart → Bool
is_first Due = true
is_first _ = false

-- the write gate is to be opened before the next word
abbrev pub opens : FormatStage → Bool
opens now = is_first now.part

abbrev pub is_next : FormatPart → Bool
is_next Due = true
is_next Lay = true
is_next _ = false

-- the next word is one of the layout
abbrev pub is_due : FormatStage → Bool
is_due now = is_next now.part

-- whether the stream takes a byte of a sector ID with its next word
abbrev pub StreamTakes : FormatStream → Bool → Type 0
StreamTakes stream takes = (last : Bool) (left : List Symbol) → Gives stream last left → IsTrue takes ↔ AsksKey left

-- whether the next word of the layout is a byte of a sector ID. The first word isn't
abbrev pub TakesAt : FormatPart → FormatStream → Bool → Type 0
TakesAt Due stream takes = takes ≡ false
TakesAt _ stream takes = StreamTakes stream takes

abbrev pub Takes : FormatStage → Bool → Type 0
Takes now takes = TakesAt now.part now.stream takes

-- ---- sector IDs (keys)

-- no sector ID
abbrev pub no_key : Chrn
no_key = record { c = 0; h = 0; r = 0; n = 0 }

-- the last of these sector IDs, or the one before them if there are none
abbrev pub last_from : Chrn → List Chrn → Chrn
last_from before [] = before
last_from before (key ∷ keys) = last_from key keys

abbrev pub last_key : List Chrn → Chrn
last_key keys = last_from no_key keys

-- this number of sector IDs, made from these bytes; bytes that are missing are 00
abbrev pub keys_from : ℕ → List ℕ → List Chrn
keys_from zero bytes = []
keys_from (suc count) bytes =
    record { c = slice_index bytes 0; h = slice_index bytes 1; r = slice_index bytes 2; n = slice_index bytes 3 }
    ∷ keys_from count (drop 4 bytes)

-- as many sector IDs as there are sectors. Their bytes are those that were handed in, and then the rest
pub record AreKeys (numbers : Numbers) (handed : List ℕ) (keys : List Chrn) (rest : List ℕ) : Type 0 where
  pub many : length keys ≡ numbers.sectors
  pub bytes : flat_map key_bytes keys ≡ handed ++ rest

-- ---- what has passed

abbrev pub symbols_of : Numbers → List Chrn → List Symbol
symbols_of numbers keys = track_symbols keys numbers.n numbers.gap3 numbers.fill

-- the words record the first of these symbols. The stream gives the other symbols, which ask for the rest of the sector
-- IDs' bytes
pub record IsLaidTo (words : List ℕ) (symbols : List Symbol) (rest : List ℕ) (stream : FormatStream) (last : Bool) (left : List Symbol) : Type 0 where
  pub gives : Gives stream last left
  pub left_is : left ≡ drop (length words) symbols
  pub asks : asked_in left ≡ rest
  pub goes_on : (more : ℕ) → words ++ recorded last (filled more left) ≡ recorded false (filled (length words + more) symbols)

-- for all sector IDs whose bytes begin with those that were handed in, the words record the first symbols of the
-- layout, and the stream gives the others
pub record IsLaid (words : List ℕ) (numbers : Numbers) (handed : List ℕ) (stream : FormatStream) : Type 0 where
  pub few : length handed ≤ 4 * numbers.sectors
  pub laid : (keys : List Chrn) (rest : List ℕ) → AreKeys numbers handed keys rest
      → (last : Bool) × (left : List Symbol) × IsLaidTo words (symbols_of numbers keys) rest stream last left

-- the bytes of the sector ID are the last four that were handed in
abbrev pub IsLastKey : List ℕ → Chrn → Type 0
IsLastKey handed key = key_bytes key ≡ drop (length handed) (key_bytes no_key ++ handed)

-- one index pulse has passed, and nothing was heard after it
pub record IsBehindFirst (turns : List (List ℕ)) (seen : List ℕ) : Type 0 where
  pub first : List ℕ
  pub turns_are : turns ≡ first ∷ []
  pub nothing : seen ≡ []

abbrev pub HasTurned : List (List ℕ) → Type 0
HasTurned turns = (first : List ℕ) × (turns ≡ first ∷ [])

abbrev pub IsAtPart : List (List ℕ) → List ℕ → ℕ → List ℕ → Bool → FormatPart → Type 0
IsAtPart turns seen place words barred Await = (turns ≡ []) × (words ≡ [])
IsAtPart turns seen place words barred Due = IsBehindFirst turns seen × (place ≡ 0) × (words ≡ [])
IsAtPart turns seen place words barred Lay = IsBehindFirst turns seen × (place ≡ length words) × (1 ≤ length words)
IsAtPart turns seen place words barred Barred = HasTurned turns × (words ≡ []) × (barred ≡ true)

-- a format at its stage, with what was heard and written since it began, and the bytes of sector IDs that were handed
-- in
abbrev pub IsFormatting : Past → Numbers → List ℕ → FormatStage → Type 0
IsFormatting past numbers handed now =
    IsAtPart past.turns past.seen past.place past.words past.barred now.part
    × IsLaid past.words numbers handed now.stream × IsLastKey handed now.key

-- the word is the next of the layout, and after it the stream and the last sector ID are these
abbrev pub IsNextLaid : Past → Numbers → List ℕ → ℕ → FormatStream → Chrn → Type 0
IsNextLaid past numbers handed word stream key =
    (IsBehindFirst past.turns past.seen × (past.place ≡ length past.words))
    × IsLaid (with_word past.words word) numbers handed stream × IsLastKey handed key

-- ---- how it ends

-- nothing was written, or the words written stand right after the first index pulse
abbrev pub IsBehindIndex : Past → Type 0
IsBehindIndex past = (past.words ≡ []) ⊎ IsBehindFirst past.turns past.seen

-- the words are the layout of these sector IDs for a revolution of as many words. They are also the first words of the
-- layout for any longer revolution
pub record IsFirstOfLayout (words : List ℕ) (numbers : Numbers) (keys : List Chrn) : Type 0 where
  pub laid : words ≡ lay keys numbers.n numbers.gap3 numbers.fill (length words)
  pub first : (turn : ℕ) → length words ≤ turn → IsFirstOf words (lay keys numbers.n numbers.gap3 numbers.fill turn)

-- the words are the first of the layout for all sector IDs whose bytes begin with those that were handed in. So the
-- words hold no byte of a sector ID that wasn't handed in
pub record IsFirstOfLayouts (words : List ℕ) (numbers : Numbers) (handed : List ℕ) : Type 0 where
  pub few : length handed ≤ 4 * numbers.sectors
  pub laid : (keys : List Chrn) (rest : List ℕ) → AreKeys numbers handed keys rest → IsFirstOfLayout words numbers keys

-- the words written, if there are any, stand right after the first index pulse and are the first of the layout
pub record HasLaid (past : Past) (numbers : Numbers) (handed : List ℕ) : Type 0 where
  pub behind : IsBehindIndex past
  pub first : IsFirstOfLayouts past.words numbers handed

-- the index pulse came right after these words, and their revolution has the whole layout of these sector IDs
pub record IsWholeTurn (past : Past) (numbers : Numbers) (handed : List ℕ) (keys : List Chrn) : Type 0 where
  pub index : past.place ≡ 0
  pub behind : IsBehindFirst past.turns past.seen
  pub many : length keys ≡ numbers.sectors
  pub bytes : flat_map key_bytes keys ≡ handed
  pub fits : Fits keys numbers.n numbers.gap3 (length past.words)
  pub laid : past.words ≡ lay keys numbers.n numbers.gap3 numbers.fill (length past.words)

abbrev pub HasWholeTurn : Past → Numbers → List ℕ → Type 0
HasWholeTurn past numbers handed = (keys : List Chrn) × IsWholeTurn past numbers handed keys

-- the index pulse came right after these words, and the layout doesn't fit in their revolution
pub record IsTooShort (past : Past) (numbers : Numbers) : Type 0 where
  pub index : past.place ≡ 0
  pub behind : IsBehindFirst past.turns past.seen
  pub some : 1 ≤ length past.words
  pub misfit : (keys : List Chrn) → length keys ≡ numbers.sectors → Fits keys numbers.n numbers.gap3 (length past.words) → ⊥

-- no write gate was opened, and the second index pulse came
abbrev pub IsBarred : Past → Type 0
IsBarred past = (past.words ≡ []) × (past.barred ≡ true) × ((between : List ℕ) × IsBetween past between)

-- the cause of each ending of a format. A format is done if the whole layout was written, whether the terminal count
-- came or not
abbrev pub HasCause : Past → Numbers → List ℕ → Ending → Type 0
HasCause past numbers handed (Done marked) = (marked ≡ false) × HasWholeTurn past numbers handed
HasCause past numbers handed NoField = IsTooShort past numbers
HasCause past numbers handed NoMark = IsBarred past
HasCause past numbers handed Overrun = past.counted ≡ false
HasCause past numbers handed Late = past.steps ≡ 65536
HasCause past numbers handed Protected = past.words ≡ []
HasCause past numbers handed NoSector = ⊥
HasCause past numbers handed BadCheck = ⊥
HasCause past numbers handed NoCount = ⊥

-- a format that ended, with the bytes of sector IDs that were handed in
pub record HasFormatted (past : Past) (numbers : Numbers) (handed : List ℕ) (ending : Ending) : Type 0 where
  pub begun : HasLaid past numbers handed
  pub cause : HasCause past numbers handed ending

-- the sector ID of the result: that of the last sector if all was done, and else none
abbrev pub IsResultKey : Numbers → List ℕ → Ending → Chrn → Type 0
IsResultKey numbers handed (Done _) key = (keys : List Chrn) × AreKeys numbers handed keys [] × (key ≡ last_key keys)
IsResultKey numbers handed _ key = key ≡ no_key

-- no write gate was opened. The Bool says whether the second index pulse has come
abbrev pub IsUnopened : Bool → Past → Type 0
IsUnopened true past = IsBarred past
IsUnopened false past = HasTurned past.turns × (past.words ≡ []) × (past.barred ≡ true)

-- what a word gave a format: its stage after the word, or how the format is over, if it is
abbrev pub format_next : FormatStage → Option FormatEnd → FormatNext
format_next after None = next.On after
format_next after (Some over) = next.Ended over.ending over.key

-- what holds after a word, by what the word gave the format
abbrev pub HasNext : Past → Numbers → List ℕ → FormatNext → Type 0
HasNext past numbers handed (next.On now) = IsFormatting past numbers handed now
HasNext past numbers handed (next.Ended ending key) =
    HasFormatted past numbers handed ending × IsResultKey numbers handed ending key

-- if a word that is heard ends a format, it ends in this way
abbrev pub FailsWell : FormatNext → Type 0
FailsWell (next.Ended ending key) = ending ≡ NoMark
FailsWell _ = Unit {0}

-- if a word that was written ends a format, it ends in one of these ways
abbrev pub IsEnd : Ending → Type 0
IsEnd (Done marked) = marked ≡ false
IsEnd NoField = Unit {0}
IsEnd _ = ⊥

abbrev pub EndsWell : FormatNext → Type 0
EndsWell (next.Ended ending key) = IsEnd ending
EndsWell _ = Unit {0}

-- the words are the first of the layout of the sector IDs that were handed in, whatever sector IDs come after these
abbrev pub LaysFirst : Past → Numbers → List ℕ → Type 0
LaysFirst past numbers handed = IsFirstOfLayouts past.words numbers handed

-- the words are the whole revolution, the layout fits in it, and all sector IDs were handed in. A track of as many
-- words becomes the layout
pub record LaysWhole (past : Past) (numbers : Numbers) (handed : List ℕ) : Type 0 where
  pub index : past.place ≡ 0
  pub words : LaysFirst past numbers handed
  pub fits : Fits (keys_from numbers.sectors handed) numbers.n numbers.gap3 (length past.words)
  pub all : length handed ≡ 4 * numbers.sectors
  pub written : (track : List ℕ) → length track ≡ length past.words
      → with_items track 0 past.words ≡ lay (keys_from numbers.sectors handed) numbers.n numbers.gap3 numbers.fill (length track)
