-- Flat files on a shelf.
use Rattle.std.specs.Prelude.{◌≡◌, ◌≤◌, ℕ, List, length, Option, Result, Ok, Err, IfSome, IsSomeAnd}
use Rattle.disk_commands.specs.Common.{Files, file_at, sectors_at, Rate, LoadError, sectors_told, Stop, IsAbsent, IsLonger}
use Rattle.flop_base.specs.declared.answers.LoadError.TheVariants as load
use Rattle.raw_image.specs.declared.error.ImageError.{ImageError}
use Rattle.sector_model.specs.declared.reply.Stop.TheVariants as stop

-- the most bytes that a flat file may have: 80 cylinders of 2 heads with 18 records each
abbrev pub most_flat_bytes : ℕ
most_flat_bytes = 1474560

-- the told file of this name has these bytes, and no more than a flat file may have
abbrev pub HasBytes : Option Files → List ℕ → List ℕ → Type 0
HasBytes told name bytes =
    IfSome told (λ files. IsSomeAnd (file_at files name) (λ there. (there ≡ bytes) × (length there ≤ most_flat_bytes)))

-- the told file of this name is the flat file of a disk of this rate
pub record IsFlatFile (told : Option Files) (name bytes : List ℕ) (rate : Rate) : Type 0 where
  pub there : HasBytes told name bytes
  pub sectors : sectors_told (length bytes) ≡ Ok (sectors_at rate)

-- the told file of this name isn't a flat file, for this reason
abbrev pub IsBadFlat : Option Files → List ℕ → ImageError → Type 0
IsBadFlat told name error =
    IfSome told (λ files. IsSomeAnd (file_at files name)
    (λ bytes. (length bytes ≤ most_flat_bytes) × (sectors_told (length bytes) ≡ Err error)))

-- why a flat file wasn't taken
abbrev pub IsNotTaken : Option Files → List ℕ → Stop → Type 0
IsNotTaken told name (stop.BadImage named error) = (named ≡ name) × IsBadFlat told name error
IsNotTaken told name (stop.TooLong named most) = (named ≡ name) × (most ≡ most_flat_bytes) × IsLonger told name most_flat_bytes
IsNotTaken told name (stop.Absent named) = (named ≡ name) × IsAbsent told name
IsNotTaken told name stop.FileFault = Unit {0}
IsNotTaken told name stop.NoMemory = Unit {0}

-- what was found under this name: the bytes of a flat file and the rate of its disk, or why the file isn't taken
abbrev pub IsFlatFound : Option Files → List ℕ → Result (List ℕ × Rate) Stop → Type 0
IsFlatFound told name (Ok (bytes, rate)) = IsFlatFile told name bytes rate
IsFlatFound told name (Err cause) = IsNotTaken told name cause

-- what ends the command if the load of the flat file of this name is refused
abbrev pub StopsFor : List ℕ → LoadError → Stop → Type 0
StopsFor name load.Absent ended = ended ≡ stop.Absent name
StopsFor name load.TooLong ended = ended ≡ stop.TooLong name most_flat_bytes
StopsFor name load.Failed ended = ended ≡ stop.FileFault
StopsFor name load.NoMemory ended = ended ≡ stop.NoMemory
