-- A drive that reports, with its own writes, those that another drive reports.
use Rattle.std.specs.Prelude.{ℕ, ◌||◌, List, map, zip}
use Rattle.std.specs.Int.RustNames.{bit_or}
use Rattle.c_bay_drive.specs.declared.bay.BayDrive.{BayDrive}

-- the tracks that are in one of two maps or in both, bit by bit
abbrev pub joined : List ℕ → List ℕ → List ℕ
joined one other = map (λ (bytes : ℕ × ℕ). bit_or bytes.0 bytes.1) (zip one other)

-- a word of the medium was replaced if one of both drives says so, and the tracks of both were written. All else is as
-- in the second drive
abbrev pub with_writes : (from bay : BayDrive) → BayDrive
with_writes from bay = record bay {
  replaced = from.replaced || bay.replaced;
  tracks = joined from.tracks bay.tracks;
}
