-- Marks: bytes A1 with a lost clock, three in a row before each field.
use Rattle.std.specs.Prelude.{◌≡◌, ◌≢◌, ℕ, ◌+◌, ◌/◌, ◌<◌, ◌≤◌, Bool, if◌then◌else◌, List, slice_index}
use Rattle.track_model.specs.Cells.{cells_at, IsInside}
use Rattle.track_model.specs.Bytes.{byte_at}

-- no cell of the stretch lies in a word 0000, where nothing was recorded
abbrev pub TouchesNoZero : List ℕ → ℕ → ℕ → Type 0
TouchesNoZero track p count = (q : ℕ) → p ≤ q → q < p + count → slice_index track (q / 16) ≢ 0

-- the stretch is inside the track and touches no zero word
pub record IsSound (track : List ℕ) (p count : ℕ) : Type 0 where
  pub inside : IsInside track p count
  pub no_zero : TouchesNoZero track p count

-- a run at p: three marks one after the other. A mark is 4489, the byte A1 without one of its clock cells. Any cell may
-- be p
pub record IsRun (track : List ℕ) (p : ℕ) : Type 0 where
  pub first : cells_at track p ≡ 0x4489
  pub second : cells_at track (p + 16) ≡ 0x4489
  pub third : cells_at track (p + 32) ≡ 0x4489

-- an address mark at p: a run and then the byte FE, all of it recorded
pub record IsAddressMark (track : List ℕ) (p : ℕ) : Type 0 where
  pub run : IsRun track p
  pub mark : byte_at track (p + 48) ≡ 0xFE
  pub sound : IsSound track p 64

-- the byte after the run of a data field
abbrev pub data_byte : Bool → ℕ
data_byte deleted = if deleted then 0xF8 else 0xFB

-- a run and the byte of a data field at q, all of it recorded
pub record IsDataRun (track : List ℕ) (q : ℕ) (deleted : Bool) : Type 0 where
  pub run : IsRun track q
  pub mark : byte_at track (q + 48) ≡ data_byte deleted
  pub sound : IsSound track q 64
