-- A format of a track, attempt by attempt.
use Rattle.std.specs.Prelude.{◌≡◌, ◌≢◌, ◌↔◌, ◌⊎◌, ℕ, ◌+◌, ◌-◌, ◌*◌, ◌<◌, ◌≤◌, List, length, slice_index, All, Option, Result, Err, IsOk, IsErr, IfErr}
use Rattle.floppy_driver.specs.Common.{RoseBy, sectors_at, Chrn, Code, NoMark, NotFound, Overrun, BadCrc, Seek, Disk, Counters, IsFaultless, IsUndisturbed, DisturbedLess, FaultsRoseBy, GoesOn, IsDriven, Rate, HasClearAddress, Format, Laying, IsFormattable, StationState, Becomes, bay_of, set_bay, IsDeviceRefusal}
use Rattle.track_format.specs.Reads.{AllFilled}
use Rattle.sector_map.specs.MetTracks.{HasNothing}
use Rattle.sector_map.specs.Standard.{key_of}
use Rattle.sector_model.specs.Formats.{Lays, IsFormatted, IsUnformatted}
use Rattle.floppy_driver.specs.Rigs.{Rig, HeadsStay, track_under}
use Rattle.floppy_driver.specs.Reading.{IsReadCode}
use Rattle.floppy_driver.specs.declared.formatting.AskedFormat.{AskedFormat}

-- the format that is asked for
abbrev pub format_of : AskedFormat → Format
format_of asked = record { c = asked.c; h = asked.h; rate = asked.rate; gap3 = asked.gap3; fill = asked.fill }

-- a format of a track of a drive, with a gap 3 and a byte
pub record IsValidFormat (format : Format) : Type 0 where
  pub cylinder : format.c ≤ 79
  pub head : format.h ≤ 1
  pub gap : 16 ≤ format.gap3
  pub byte : format.fill < 256

-- ---- reading back

-- the first `count` bytes of the page are this byte
abbrev pub IsFilled : List ℕ → ℕ → ℕ → Type 0
IsFilled page count fill = (k : ℕ) → k < count → slice_index page k ≡ fill

-- a record of the key can be found on the track, and all of it is this byte
pub record HoldsRecord (track : List ℕ) (key : Chrn) (fill : ℕ) : Type 0 where
  pub clear : HasClearAddress track key
  pub filled : AllFilled track key fill

-- this holds of each record from 1 to the last
abbrev pub HoldsRecords : List ℕ → ℕ → ℕ → ℕ → ℕ → Type 0
HoldsRecords track c h last fill = (r : ℕ) → 1 ≤ r → r ≤ last → HoldsRecord track (key_of c h r) fill

-- nothing is recorded under the head, for a command at this rate
abbrev pub IsBlankUnder : Rig → ℕ → Rate → ℕ → Type 0
IsBlankUnder rig bay rate h = HasNothing (track_under rig bay rate h)

-- records could not be read back. If they are there, something disturbed the call. If nothing is recorded and nothing
-- disturbed, no mark was found
pub record IsReadBackMiss (bay : ℕ) (blank there : Type 0) (old : Counters) (code : Code) (new : Counters) : Type 0 where
  pub coded : IsReadCode code
  pub overrun : code ≡ Overrun → RoseBy 1 old.stalls new.stalls
  pub disturbed : there → IsUndisturbed bay old new → ⊥
  pub unmarked : blank → IsUndisturbed bay old new → code ≡ NoMark
  pub sent : RoseBy 1 old.data_commands new.data_commands

-- `count` records were read back: nothing changed but counters and the driver's page
pub record ReadsRecords (bay count : ℕ) (blank there : Type 0) (old : Rig) (answer : Result (Unit {0}) Code) (new : Rig) : Type 0 where
  pub heads : HeadsStay old new
  pub media : new.media ≡ old.media
  pub memory : new.memory ≡ old.memory
  pub counts : GoesOn old.counters new.counters
  pub driven : IsDriven count old.counters new.counters
  pub commands : IsOk answer → RoseBy count old.counters.data_commands new.counters.data_commands
  pub found : IsOk answer → 1 ≤ count → blank → ⊥
  pub refused : IfErr answer (λ code. IsReadBackMiss bay blank there old.counters code new.counters)

-- ---- attempts

-- why the last attempt was refused
pub record IsAttemptRefusal (bay : ℕ) (old : Counters) (code : Code) (new : Counters) : Type 0 where
  pub device : IsDeviceRefusal code
  pub undisturbed : IsUndisturbed bay old new → code ≡ NoMark
  pub overrun : code ≡ Overrun → RoseBy 1 old.stalls new.stalls
  pub lost : code ≡ Seek → FaultsRoseBy 77 bay old new
  pub sent : code ≢ Seek → RoseBy 1 old.data_commands new.data_commands
  -- the format was done, and records were read back
  pub read_back : (code ≡ NotFound ⊎ code ≡ BadCrc) → RoseBy 2 old.data_commands new.data_commands

-- how the last attempt ended
pub record EndsFormat (format : Format) (bay : ℕ) (before after : Option Disk) (old : Counters) (answer : Result (Unit {0}) Code) (new : Counters) : Type 0 where
  pub exactly : IsUndisturbed bay old new → IsOk answer ↔ IsFormattable format before
  pub begun : IsUndisturbed bay old new → IsFormatted format before after
  pub commands : IsOk answer → RoseBy (1 + sectors_at format.rate) old.data_commands new.data_commands
  pub formatted_track : IsOk answer → IsFaultless bay old new
      → IsFormattable format before × IsFormatted format before after
  pub refused : IfErr answer (λ code. IsAttemptRefusal bay old code new)

-- a medium was formatted in up to `count` attempts; the answer is that of the last
pub record FormatsIn (count : ℕ) (format : Format) (bay : ℕ) (before after : Option Disk) (old : Counters) (answer : Result (Unit {0}) Code) (new : Counters) : Type 0 where
  pub layings : List Laying
  pub few : length layings ≤ count
  pub lays : Lays format before layings after
  pub only : IsFaultless bay old new → All (λ laying. laying.cylinder ≡ format.c) layings
  pub untouched : IsUndisturbed bay old new → IsUnformatted format before after
  -- each attempt that fails on a formattable medium was disturbed
  pub never : IsErr answer → IsFormattable format before → DisturbedLess count bay old new → ⊥
  pub driven : IsDriven (count * (1 + sectors_at format.rate)) old new
  -- if the heads could not be placed, the last attempt sent no data command
  pub unsent : 1 ≤ count → answer ≡ Err Seek
      → new.data_commands ≤ old.data_commands + (count - 1) * (1 + sectors_at format.rate)
  pub ends : 1 ≤ count → EndsFormat format bay before after old answer new

-- nothing of the station changed but the medium in a bay, and counters
abbrev pub HasOnlyMedium : ℕ → Option Disk → StationState → StationState → Type 0
HasOnlyMedium bay medium old new = Becomes (set_bay old bay (record (bay_of old bay) { medium = medium })) new
