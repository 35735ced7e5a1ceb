-- A separator that waits for a data mark or reads a data field, and the words fed.
use Rattle.std.specs.Prelude.{◌≡◌, ◌↔◌, ℕ, ◌+◌, ◌-◌, ◌*◌, ◌<◌, ◌≤◌, Bool, true, false, MatchBool, IsTrue, List, ◌∷◌, ◌++◌, min, length}
use Rattle.track_model.specs.Cells.{IsInside}
use Rattle.track_model.specs.Bytes.{byte_at, bytes_at}
use Rattle.track_model.specs.Crc.{crc, crc_from}
use Rattle.track_model.specs.Marks.{IsRun, TouchesNoZero, data_byte}
use Rattle.track_model.specs.Fields.{IsDataMark, after_marks, content_size}
use Rattle.track_model.specs.Looks.{IsFirstDataMark, IsIntact}
use Rattle.track_separator.specs.declared.state.Seen.{Seen}
use Rattle.track_separator.specs.declared.state.Seen.TheVariants.{Nothing, Mode, Byte, End, NoData}
use Rattle.track_separator.specs.declared.state.Stage.{Stage}
use Rattle.track_separator.specs.declared.state.Stage.TheVariants.{Waiting, Content}
use Rattle.track_separator.specs.declared.state.Separator.{Separator}
use Rattle.track_separator.specs.Register.{HasNoZeroFrom, KeepsFrom, HasTail, IsFull, register_byte}
use Rattle.track_separator.specs.Parts.{EndsInLast}
use Rattle.track_separator.specs.Hunts.{HuntsIn}

-- a run at q ended in the last word, and its cells were recorded
pub record IsPending (fed : List ℕ) (q own : ℕ) : Type 0 where
  pub place : q + 48 + own ≡ 16 * length fed
  pub small : own < 16
  pub run : IsRun fed q
  pub no_zero : HasNoZeroFrom fed q

-- a run behind the address field ended in the last word, or none did
abbrev pub IsMarked : List ℕ → ℕ → ℕ → Bool → Type 0
IsMarked fed p back true = (q : ℕ) × (p + 160 ≤ q) × IsPending fed q back
IsMarked fed p back false = (q own : ℕ) → p + 160 ≤ q → IsPending fed q own → ⊥

-- a data mark of the address field at p is awaited: there was none so far, and one can still come. A mark that begins
-- less than 960 cells behind the field is complete at the latest at the 1,023rd cell behind it.
pub record IsWaiting (fed : List ℕ) (cells back p since : ℕ) (marked : Bool) : Type 0 where
  pub place : p + 160 + since ≡ 16 * length fed
  pub early : since ≤ 1022
  pub tail : HasTail fed cells
  pub full : IsFull fed cells p
  pub none : (q : ℕ) (deleted : Bool) → IsDataMark fed p q deleted → ⊥
  pub pending : IsMarked fed p back marked

-- a word has come into the register
pub record IsWaitingNext (fed : List ℕ) (cells p since : ℕ) : Type 0 where
  pub place : p + 160 + since ≡ 16 * length fed
  pub tail : HasTail fed cells
  pub full : IsFull fed cells p
  pub none : (q : ℕ) (deleted : Bool) → IsDataMark fed p q deleted → ⊥

abbrev pub WaitsIn : List ℕ → ℕ → ℕ → ℕ → ℕ → Stage → Type 0
WaitsIn fed cells back p size (Waiting asked since marked) = (asked ≡ size) × IsWaiting fed cells back p since marked
WaitsIn fed cells back p size _ = ⊥

-- the separator waits for the data field of `size` bytes of the address field at p
abbrev pub SWaits : Separator → List ℕ → ℕ → ℕ → Type 0
SWaits separator fed p size = WaitsIn fed separator.cells separator.back p size separator.stage

-- so many bytes of the data field at q have passed
pub record IsReading (fed : List ℕ) (cells back p q : ℕ) (deleted : Bool) (size taken check : ℕ) (touched : Bool) : Type 0 where
  pub place : q + 64 + 16 * taken + back ≡ 16 * length fed
  pub most : taken ≤ size + 1
  pub first : IsFirstDataMark fed p q deleted
  pub recent : KeepsFrom fed cells (16 * length fed - 32)
  pub recorded : MatchBool touched (TouchesNoZero fed q (64 + 16 * taken) → ⊥) (TouchesNoZero fed q (64 + 16 * taken))
  pub goes_on : (rest : List ℕ) → crc_from check rest ≡ crc (after_marks (data_byte deleted ∷ (bytes_at fed (q + 64) (min taken size) ++ rest)))

abbrev pub ReadsIn : List ℕ → ℕ → ℕ → ℕ → ℕ → Bool → ℕ → ℕ → Stage → Type 0
ReadsIn fed cells back p q deleted size taken (Content asked passed check touched) =
    (asked ≡ size) × (passed ≡ taken) × IsReading fed cells back p q deleted size taken check touched
ReadsIn fed cells back p q deleted size taken _ = ⊥

-- the separator reads the data field of `size` bytes at q, and has taken so many of its bytes
abbrev pub SReads : Separator → List ℕ → ℕ → ℕ → Bool → ℕ → ℕ → Type 0
SReads separator fed p q deleted size taken =
    ReadsIn fed separator.cells separator.back p q deleted size taken separator.stage

-- there is no data mark of the address field at p, however the revolution goes on
pub record HasNoDataMark (fed : List ℕ) (p : ℕ) : Type 0 where
  pub far : p + 160 + 960 + 63 ≤ 16 * length fed
  pub none : (q : ℕ) (deleted : Bool) → IsDataMark fed p q deleted → ⊥

-- the last word has the 1,023rd cell behind the address field at p; the last data mark that can come would end there
abbrev pub EndsReach : List ℕ → ℕ → Type 0
EndsReach fed p = EndsInLast fed (p + 160 + 960 + 63)

-- the first data mark is at q, and its field of `size` bytes is over
pub record HasEnded (fed : List ℕ) (p q : ℕ) (deleted : Bool) (size : ℕ) : Type 0 where
  pub first : IsFirstDataMark fed p q deleted
  pub inside : IsInside fed q (64 + 16 * (size + 2))

-- `good` says whether that data field is whole
abbrev pub TellsWhole : List ℕ → ℕ → ℕ → Bool → Type 0
TellsWhole fed q size good = (n : ℕ) → size ≡ content_size n → IsTrue good ↔ IsIntact fed q n

-- the revolution is over, and no data field of `size` bytes of the address field at p is inside it
abbrev pub IsUnfinished : List ℕ → ℕ → ℕ → Type 0
IsUnfinished fed p size = (q : ℕ) (deleted : Bool) → HasEnded fed p q deleted size → ⊥

-- what a word inside the revolution gives a separator that waits
abbrev pub WaitSeenIn : List ℕ → ℕ → ℕ → ℕ → ℕ → Stage → Seen → Type 0
WaitSeenIn fed p size cells back stage Nothing = WaitsIn fed cells back p size stage
WaitSeenIn fed p size cells back stage (Mode deleted) = (q : ℕ) × ReadsIn fed cells back p q deleted size 0 stage
WaitSeenIn fed p size cells back stage NoData = HasNoDataMark fed p × EndsReach fed p × HuntsIn fed cells back stage
WaitSeenIn fed p size cells back stage _ = ⊥

abbrev pub SWaitSeen : List ℕ → ℕ → ℕ → Separator → Seen → Type 0
SWaitSeen fed p size separator seen = WaitSeenIn fed p size separator.cells separator.back separator.stage seen

-- what a word inside the revolution gives a separator that reads
abbrev pub ReadSeenIn : List ℕ → ℕ → ℕ → Bool → ℕ → ℕ → ℕ → ℕ → Stage → Seen → Type 0
ReadSeenIn fed p q deleted size taken cells back stage (Byte value) =
    (taken < size) × (value ≡ byte_at fed (q + 64 + 16 * taken)) × ReadsIn fed cells back p q deleted size (taken + 1) stage
ReadSeenIn fed p q deleted size taken cells back stage Nothing =
    (taken ≡ size) × ReadsIn fed cells back p q deleted size (taken + 1) stage
ReadSeenIn fed p q deleted size taken cells back stage (End good) =
    (taken ≡ size + 1) × HasEnded fed p q deleted size × TellsWhole fed q size good × HuntsIn fed cells back stage
ReadSeenIn fed p q deleted size taken cells back stage _ = ⊥

abbrev pub SReadSeen : List ℕ → ℕ → ℕ → Bool → ℕ → ℕ → Separator → Seen → Type 0
SReadSeen fed p q deleted size taken separator seen =
    ReadSeenIn fed p q deleted size taken separator.cells separator.back separator.stage seen

-- ---- parts of a word

-- a data mark is complete
pub record IsMarkIn (cells back since : ℕ) (marked deleted : Bool) : Type 0 where
  pub pending : marked ≡ true
  pub near : since < 960 + 64 + back
  pub byte : register_byte cells back ≡ data_byte deleted
