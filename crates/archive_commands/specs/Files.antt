-- The files of a command: what the file that it loads holds, and why its bytes aren't there.
use Rattle.std.specs.Prelude.{◌≡◌, ◌≢◌, ◌≤◌, ℕ, List, length, Option, Some, Result, Ok, Err, Vec, IfSome, IsSomeAnd, IsErrOf}
use Rattle.archive_commands.specs.Common.{Global, Files, file_at, Status, ImageError, Stop, Blames}
use Rattle.flop_base.specs.declared.answers.LoadError.{LoadError}
use Rattle.flop_base.specs.declared.answers.LoadError.TheVariants as load
use Rattle.flop_base.specs.declared.answers.StoreError.{StoreError}
use Rattle.flop_base.specs.declared.answers.StoreError.TheVariants as store
use Rattle.flop_base.specs.declared.answers.Status.TheVariants as status
use Rattle.sector_model.specs.declared.reply.Stop.TheVariants as stop
use Rattle.sector_model.specs.Steps.{most_image_bytes, IsAbsent, IsLonger}

-- all that a command may change: the told files and the told report
pub record Outside : Type 0 where
  pub files : Option Files
  pub report : Option (List (List ℕ))

abbrev pub outside_of : {S K : Type 0} → (S → Option Files) → (K → Option (List (List ℕ))) → S → K → Outside
outside_of files report shelf out = record { files = files shelf; report = report out }

-- an outside, with the faults that its file store (shelf) and its output (sink) counted
pub record FaultyOutside : Type 0 where
  pub outside : Outside
  pub shelf_faults : ℕ
  pub sink_faults : ℕ

abbrev pub faulty_outside_of : {S K : Type 0} → (S → Option Files) → (S → ℕ) → (K → Option (List (List ℕ))) → (K → ℕ) → S → K → FaultyOutside
faulty_outside_of files shelf_count report sink_count shelf out =
    record { outside = outside_of files report shelf out; shelf_faults = shelf_count shelf; sink_faults = sink_count out }

-- a command that is given file store and output did this, and its arguments (words) were a subcommand (form). If its
-- status reports a fault, it was counted once; else no fault was counted
pub record RanOnFiles (Does : Outside → Outside → Status → Type 0) (old new : FaultyOutside) (ended : Status) : Type 0 where
  pub does : Does old.outside new.outside ended
  pub is_form : ended ≢ status.BadWords
  pub shelf_faults : Blames (ended ≡ status.FileFault) old.shelf_faults new.shelf_faults
  pub sink_faults : Blames (ended ≡ status.SinkFault) old.sink_faults new.sink_faults

-- the told file of this name isn't too long, and reading its bytes gives this
abbrev pub ReadsAs : {T : Type 0} → (List ℕ → Result T ImageError) → Option Files → List ℕ → Result T ImageError → Type 0
ReadsAs reading told name read =
    IfSome told (λ files. IsSomeAnd (file_at files name) (λ bytes. (length bytes ≤ most_image_bytes) × (reading bytes ≡ read)))

-- why the bytes of the file of this name weren't loaded. That the file store failed is known by its count of faults
abbrev pub IsMissed : Option Files → List ℕ → Stop → Type 0
IsMissed told from (stop.Absent name) = (name ≡ from) × IsAbsent told from
IsMissed told from (stop.TooLong name most) = (name ≡ from) × (most ≡ most_image_bytes) × IsLonger told from most
IsMissed told from (stop.BadImage name error) = ⊥
IsMissed told from stop.FileFault = Unit {0}
IsMissed told from stop.NoMemory = Unit {0}

-- why a command stops that reads the file of this name: reading its bytes gives an error, or they weren't loaded
abbrev pub StopsAt : {T : Type 0} → (List ℕ → Result T ImageError) → Option Files → List ℕ → Stop → Type 0
StopsAt reading told from (stop.BadImage name error) = (name ≡ from) × ReadsAs reading told from (Err error)
StopsAt reading told from cause = IsMissed told from cause

-- what a load of the file of this name gives: its bytes, or why they weren't loaded
abbrev pub GivesBytes : List ℕ → Option Files → Result (Vec ℕ Global) Stop → Type 0
GivesBytes name told (Ok bytes) = IfSome told (λ files. (file_at files name ≡ Some bytes.items) × (length bytes.items ≤ most_image_bytes))
GivesBytes name told (Err cause) = IsMissed told name cause

-- what reading the file of this name gives: what its bytes hold, or why a command stops
abbrev pub Reads : {T : Type 0} → (List ℕ → Result T ImageError) → List ℕ → Option Files → Result T Stop → Type 0
Reads reading name told (Ok read) = ReadsAs reading told name (Ok read)
Reads reading name told (Err cause) = StopsAt reading told name cause

-- the told files, with the faults that their file store counted
pub record FaultyFiles : Type 0 where
  pub files : Option Files
  pub faults : ℕ

abbrev pub faulty_files_of : {S : Type 0} → (S → Option Files) → (S → ℕ) → S → FaultyFiles
faulty_files_of files shelf_count shelf = record { files = files shelf; faults = shelf_count shelf }

-- a file was read, which gave this, and no file changed. If the result reports a fault of the file store, it was
-- counted once; else no fault was counted
pub record Loaded {T : Type 0} (Gives : Option Files → Result T Stop → Type 0) (old : FaultyFiles) (result : Result T Stop) (new : FaultyFiles) : Type 0 where
  pub gives : Gives old.files result
  pub stays : new.files ≡ old.files
  pub faults : Blames (IsErrOf result stop.FileFault) old.faults new.faults

-- what stops the command after a load of the file of this name was refused
abbrev pub LoadStops : LoadError → List ℕ → Stop → Type 0
LoadStops load.Absent name ended = ended ≡ stop.Absent name
LoadStops load.TooLong name ended = ended ≡ stop.TooLong name most_image_bytes
LoadStops load.Failed name ended = ended ≡ stop.FileFault
LoadStops load.NoMemory name ended = ended ≡ stop.NoMemory

-- what stops the command after a store was refused
abbrev pub StoreStops : StoreError → Stop → Type 0
StoreStops store.Failed ended = ended ≡ stop.FileFault
StoreStops store.NoMemory ended = ended ≡ stop.NoMemory
