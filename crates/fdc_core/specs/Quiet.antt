-- For how many device steps a data command surely leaves both lines as they are, and how large the number is at least.
use Rattle.std.specs.Prelude.{◌≡◌, ◌≤◌, ◌<◌, ◌+◌, ◌-◌, ◌*◌, ◌++◌, ℕ, zero, suc, Bool, true, false, Option, None, Some, List, [], length, drop}
use Rattle.fdc_core.specs.Common.{AreAhead, words_left, DriveState, rate_of, Chrn, IsDisk, IsAddressAt, IsDataMark, content_size, IsPlain, Fifo, wants, Past, IsContent, IsReading, Numbers, is_due, mark_at, HasNoClear, IsSearching, Wants, ReadStage, Search, Sent, head_of, mark_of_phase, rate_fits, Phase, Execute, Task, Read, Write, Format}
use Rattle.fdc_stages.specs.Among.{content_among, keys_among}
use Rattle.fdc_stages.specs.Writings.{is_search}
use Rattle.track_model.specs.Windows.{window_word, window_words}
use Rattle.track_model.specs.Looks.{IsFirstDataMark}
use Rattle.fdc_core.specs.Contents.{HasRoom}
use Rattle.fdc_core.specs.Courses.{Works, HoldsLines}
use Rattle.fdc_core.specs.Heard.{MayRead, MayReadId}
use Rattle.fdc_core.specs.Written.{MayWrite, MayFormat}
use Rattle.fdc_core.specs.Drives.Hearing.{IsCalm, IsHearing, IsRecorded, Outset}
use Rattle.fdc_core.specs.declared.controller.Fdc.{Fdc}

-- so many device steps with the selected drive, whatever the drive does in them
unfoldable pub WorksBy : ℕ → Fdc → DriveState → Fdc → DriveState → Type 0
WorksBy zero old before new after = (new ≡ old) × (after ≡ before)
WorksBy (suc count) old before new after =
    (mid : Fdc) × (between : DriveState) × WorksBy count old before mid between × Works mid between new after

-- after each number of device steps up to this one, both lines are as they were. No data command has ended, and no data
-- mark was met
abbrev pub IsQuietBy : ℕ → Fdc → DriveState → Type 0
IsQuietBy most old before =
    (count : ℕ) (new : Fdc) (after : DriveState) → count ≤ most → WorksBy count old before new after → HoldsLines old new

-- ---- what has to be known of the drive, and of the words heard since the index

-- these words have at most one address field of this sector ID
abbrev pub HasSingle : Chrn → List ℕ → Type 0
HasSingle key words = (p q : ℕ) → IsAddressAt words p key → IsAddressAt words q key → p ≡ q

-- no fault can come any more. The words heard, with those that are certain to pass next under the head, are those of a
-- Plain track: no run begins within an address field. If one does, what a search makes of that field is left open
pub record IsCertain (head : ℕ) (seen : List ℕ) (drive : DriveState) : Type 0 where
  pub faultless : drive.left ≡ Some 0
  pub plain : (words : List ℕ) → AreAhead head words drive → IsPlain (seen ++ words)

-- they have at most one address field of this sector ID. If there are more, which of them a reading reads is left open
abbrev pub IsCertainOf : Chrn → ℕ → List ℕ → DriveState → Type 0
IsCertainOf key head seen drive = (words : List ℕ) → AreAhead head words drive → HasSingle key (seen ++ words)

-- a write searches for its address field
abbrev pub searches_for : Task → Bool
searches_for (Write writing) = is_search writing.stage
searches_for _ = false

abbrev pub searches_in : Phase → Bool
searches_in (Execute execution) = searches_for execution.task
searches_in _ = false

-- so many device steps surely change neither line, whatever a data command heard and wrote before. Of a FORMAT this holds
-- whatever the drive does, and of a write after its search too
pub record Foresees (count : ℕ) (fdc : Fdc) (drive : DriveState) : Type 0 where
  pub identifies : (past : Past) (sent : ℕ) → MayReadId past sent fdc → IsCertain (head_of sent) past.seen drive → IsQuietBy count fdc drive
  pub reads : (past : Past) (sent : Sent) → MayRead past sent fdc → IsCertain (head_of sent.head_drive) past.seen drive
      → IsCertainOf sent.key (head_of sent.head_drive) past.seen drive → IsQuietBy count fdc drive
  pub writes : (past : Past) (sent : Sent) (deleted : Bool) → MayWrite past sent deleted fdc
      → (searches_in fdc.phase ≡ true → IsCertain (head_of sent.head_drive) past.seen drive) → IsQuietBy count fdc drive
  pub formats : (past : Past) (sent : ℕ) (numbers : Numbers) → MayFormat past sent numbers fdc → IsQuietBy count fdc drive

-- ---- what may be heard before a command meets what it looks for

-- these words have no address field that is wanted
abbrev pub HasNoneWanted : Option Chrn → List ℕ → Type 0
HasNoneWanted wanted words = (p : ℕ) (key : Chrn) → Wants wanted key → IsAddressAt words p key → ⊥

-- none of the address fields of this sector ID has had a data mark, and the mark of each may still come
abbrev pub MayBeMarked : Chrn → List ℕ → Type 0
MayBeMarked key words =
    (p : ℕ) → IsAddressAt words p key
    → (16 * length words ≤ p + 160 + 1022) × ((q : ℕ) (deleted : Bool) → IsDataMark words p q deleted → ⊥)

-- after these words, the content of each data field of this sector ID goes on for more than so many words
abbrev pub GoesOnFor : ℕ → Chrn → List ℕ → Type 0
GoesOnFor count key words =
    (p q : ℕ) (deleted : Bool) → IsAddressAt words p key → IsFirstDataMark words p q deleted
    → 16 * (length words + count + 1) ≤ q + 64 + 16 * content_size key.n

-- after so many words more, the window of each address field of this sector ID still lacks a word. At most so many of
-- them are bytes of its content
abbrev pub FillsWith : ℕ → ℕ → Chrn → Past → Type 0
FillsWith count bytes key past =
    (p : ℕ) → IsAddressAt past.seen p key
    → (past.place + count < window_word p + window_words key.n)
    × (content_among (content_size key.n) (past.place + count - window_word p)
    ≤ content_among (content_size key.n) (past.place - window_word p) + bytes)

-- of so many words more of a layout, at most so many are bytes of sector IDs, whatever the sector IDs are
abbrev pub LaysWith : ℕ → ℕ → Numbers → Past → Type 0
LaysWith count bytes numbers past =
    (keys : List Chrn) → length keys ≡ numbers.sectors
    → keys_among numbers keys (length past.words + count) ≤ keys_among numbers keys (length past.words) + bytes

-- so many bytes can be taken from the FIFO while DRQ stays down
pub record HasSupply (count : ℕ) (counted : Bool) (fifo : Fifo) : Type 0 where
  pub quiet : (taken : ℕ) → taken ≤ count → wants false false counted (record fifo { bytes = drop taken fifo.bytes }) ≡ false

-- ---- the words that pass next

-- DRQ would come up in the next device step, by the bytes that are in the FIFO now
abbrev pub asks_in : Task → Fifo → Bool
asks_in (Read reading) fifo = wants true false false fifo
asks_in (Write writing) fifo = wants false false writing.counted fifo
asks_in (Format formatting) fifo = wants false false formatting.counted fifo
asks_in _ fifo = false

abbrev pub asks_soon : Phase → Fifo → Bool
asks_soon (Execute execution) fifo = asks_in execution.task fifo
asks_soon _ fifo = false

-- how many device steps a command may still take before its last one; none where no data command is executed
abbrev pub steps_left : Phase → ℕ
steps_left (Execute execution) = 65535 - execution.steps
steps_left _ = 0

-- the content of a data field is read
abbrev pub ReadsIn : Task → Type 0
ReadsIn (Read reading) = IsContent reading.stage
ReadsIn _ = ⊥

abbrev pub ReadsContent : Phase → Type 0
ReadsContent (Execute execution) = ReadsIn execution.task
ReadsContent _ = ⊥

-- the next word is one of the layout of a FORMAT
abbrev pub lays_for : Task → Bool
lays_for (Format formatting) = is_due formatting.stage
lays_for _ = false

abbrev pub lays_in : Phase → Bool
lays_in (Execute execution) = lays_for execution.task
lays_in _ = false

-- nothing but the words can change a line. No fault can come any more, and no poll comes. DRQ is down, and comes up only
-- by further bytes. The controller works at the medium's rate
pub record IsUndisturbed (fdc : Fdc) (drive : DriveState) : Type 0 where
  pub faultless : drive.left ≡ Some 0
  pub unpolled : fdc.poll_due ≡ false
  pub low : fdc.asking ≡ false
  pub stays_low : asks_soon fdc.phase fdc.fifo ≡ false
  pub fits : rate_fits fdc.rate (rate_of drive.medium) ≡ true

-- nothing but the words can change a line. At least so many of them pass before the last one of the track, and before the
-- last step of the command
pub record HasWords (head count : ℕ) (fdc : Fdc) (drive : DriveState) : Type 0 where
  pub undisturbed : IsUndisturbed fdc drive
  pub words : count ≤ words_left head drive
  pub steps : count ≤ steps_left fdc.phase

-- these words pass next under the head, and they are no more than were asked for
pub record PassNext (head most : ℕ) (words : List ℕ) (fdc : Fdc) (drive : DriveState) : Type 0 where
  pub has : HasWords head (length words) fdc drive
  pub ahead : AreAhead head words drive
  pub few : length words ≤ most

-- how large the number is at least. It counts all words that pass next, as long as with them
-- - a READ ID has heard no address field
-- - a READ DATA before its data mark has met none, and the mark of each address field of its sector may still come
-- - a write, after its first step, has heard no address field of its sector
-- - a FORMAT, after its first step, lays no word. It awaits the index pulse, or its gate could not be opened
--
-- In the content of a READ DATA, it counts as many words as the FIFO has room for while DRQ stays down. After these words
-- one more byte of the content has to come, still before the last word of the track.
--
-- After the search of a write, and in the layout of a FORMAT, it counts as many words as the FIFO has bytes for while DRQ
-- stays down. The last word of a window isn't counted
pub record IsLongest (most count : ℕ) (fdc : Fdc) (drive : DriveState) : Type 0 where
  pub identifies : (past : Past) (sent : ℕ) (words : List ℕ) → MayReadId past sent fdc → PassNext (head_of sent) most words fdc drive
      → HasNoneWanted None (past.seen ++ words) → length words ≤ count
  pub awaits : (past : Past) (sent : Sent) (words : List ℕ) → MayRead past sent fdc → mark_of_phase fdc.phase ≡ None
      → PassNext (head_of sent.head_drive) most words fdc drive → MayBeMarked sent.key (past.seen ++ words) → length words ≤ count
  pub reads : (past : Past) (sent : Sent) (n : ℕ) → MayRead past sent fdc → ReadsContent fdc.phase → n ≤ most
      → HasWords (head_of sent.head_drive) (n + 1) fdc drive → HasRoom n past.counted fdc.fifo → GoesOnFor n sent.key past.seen → n ≤ count
  pub searches : (past : Past) (sent : Sent) (deleted : Bool) (words : List ℕ) → MayWrite past sent deleted fdc → 1 ≤ past.steps
      → PassNext (head_of sent.head_drive) most words fdc drive → HasNoneWanted (Some sent.key) (past.seen ++ words) → length words ≤ count
  pub fills : (past : Past) (sent : Sent) (deleted : Bool) (n bytes : ℕ) → MayWrite past sent deleted fdc → searches_in fdc.phase ≡ false → 1 ≤ past.steps → n ≤ most
      → HasWords (head_of sent.head_drive) n fdc drive → HasSupply bytes past.counted fdc.fifo → FillsWith n bytes sent.key past → n ≤ count
  pub listens : (past : Past) (sent : ℕ) (numbers : Numbers) (n : ℕ) → MayFormat past sent numbers fdc → lays_in fdc.phase ≡ false → 1 ≤ past.steps → n ≤ most
      → HasWords (head_of sent) n fdc drive → n ≤ count
  pub lays : (past : Past) (sent : ℕ) (numbers : Numbers) (n bytes : ℕ) → MayFormat past sent numbers fdc → lays_in fdc.phase ≡ true → 1 ≤ past.steps → n ≤ most
      → HasWords (head_of sent) n fdc drive → HasSupply bytes past.counted fdc.fifo → LaysWith n bytes numbers past → n ≤ count

-- ---- what the words ahead make of a search and of a reading

-- these words were heard too
abbrev pub past_with : List ℕ → Past → Past
past_with words past = record past { seen = past.seen ++ words }

-- a search goes on after these words. What was heard in this revolution has then no clear address field that is wanted
abbrev pub MeetsNothing : Option Chrn → List ℕ → Search → Type 0
MeetsNothing wanted words search =
    (past : Past) → IsSearching past wanted search → HasNoClear wanted (past.seen ++ words)

-- these words have an address field that is wanted, if the search would go on before the last of them
abbrev pub MeetsBy : Option Chrn → List ℕ → Search → Type 0
MeetsBy wanted words search =
    (past : Past) → IsSearching past wanted search → HasNoneWanted wanted (past.seen ++ words) → ⊥

-- a reading that has met no data mark
abbrev pub IsUnmarked : Past → Chrn → ReadStage → Type 0
IsUnmarked past key stage = IsReading past key [] stage × (mark_at stage ≡ None)

-- a reading goes on after these words, and still has met no data mark
abbrev pub MarksNothing : Chrn → List ℕ → ReadStage → Type 0
MarksNothing key words stage =
    (past : Past) → IsUnmarked past key stage → (final : ReadStage) × IsUnmarked (past_with words past) key final

-- with these words, a reading meets its data mark, or that mark can't come any more
abbrev pub MarksBy : Chrn → List ℕ → ReadStage → Type 0
MarksBy key words stage =
    (past : Past) → IsUnmarked past key stage → MayBeMarked key (past.seen ++ words) → ⊥

-- the content of a reading has no more bytes than this
abbrev pub HasMostLeft : ℕ → ReadStage → Type 0
HasMostLeft count stage =
    (past : Past) (key : Chrn) (told : List ℕ) → IsReading past key told stage → content_size key.n ≤ length told + count

-- the content of a reading has at least so many more bytes
abbrev pub HasBytesLeft : ℕ → ReadStage → Type 0
HasBytesLeft count stage =
    (past : Past) (key : Chrn) (told : List ℕ) → IsReading past key told stage → length told + count ≤ content_size key.n

-- ---- a track whose words were heard

-- a command that is executed has heard the words of a track as they stand there. The medium has the track, at the
-- controller's rate
pub record HearsWhole (outset : Outset) (past : Past) (drive : DriveState) : Type 0 where
  pub hearing : IsHearing outset past true drive
  pub recorded : IsRecorded outset
  pub valid : IsDisk outset.disk
  pub calm : IsCalm outset.faults drive.faults
