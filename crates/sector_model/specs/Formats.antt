-- A format of a track.
use Rattle.std.specs.Prelude.{◌≡◌, ◌≢◌, ◌↔◌, ◌⊎◌, ℕ, ◌+◌, ◌-◌, ◌*◌, ◌≤◌, List, [], ◌∷◌, length, All, Option, Some, None, Result, IsOk, IfErr, MatchOption}
use Rattle.sector_model.specs.Common.{Code, NoMark, NotFound, Overrun, BadCrc, Seek, Disk, HasTrack, track_of, sectors_at, RoseBy, IsFaultless, IsUndisturbed, DisturbedLess, FaultsRoseBy, IsDriven, CostsUpTo}
use Rattle.sector_map.specs.Layings.{Format, Laying, IsLaying, formatted, IsFormattable}
use Rattle.sector_model.specs.Stations.{StationState, Becomes, bay_of, set_bay}
use Rattle.sector_model.specs.Lasting.{format_port_accesses, format_time}
use Rattle.sector_model.specs.Orders.{format_refusal, IsRefusedAtOnce, IsDeviceRefusal}
use Rattle.sector_model.specs.Reads.{spoilable}

-- layings one after the other
abbrev pub LaysDisk : Format → Disk → List Laying → Disk → Type 0
LaysDisk format disk [] after = after ≡ disk
LaysDisk format disk (laying ∷ later) after =
    (next : Disk) × IsLaying format disk laying next × LaysDisk format next later after

-- what formats may have made of the medium in a bay
abbrev pub Lays : Format → Option Disk → List Laying → Option Disk → Type 0
Lays format (Some disk) layings (Some after) = LaysDisk format disk layings after
Lays format (Some disk) layings None = ⊥
Lays format None layings medium = (layings ≡ []) × (medium ≡ None)

-- the track after a format at the rate of the medium: the layout, or its beginning if it doesn't fit
abbrev pub IsFormatted : Format → Option Disk → Option Disk → Type 0
IsFormatted format before after =
    (disk : Disk) → before ≡ Some disk → HasTrack disk format.c format.h → disk.rate ≡ format.rate
    → (formatted_disk : Disk) × (after ≡ Some formatted_disk)
    × (track_of formatted_disk format.c format.h ≡ formatted format disk.words_per_track)

-- a format that met no such track, or one of another rate, changed nothing
abbrev pub IsUnformatted : Format → Option Disk → Option Disk → Type 0
IsUnformatted format before after =
    ((disk : Disk) → before ≡ Some disk → HasTrack disk format.c format.h → disk.rate ≡ format.rate → ⊥) → after ≡ before

-- why a format was refused by the drive
pub record IsFormatCause (format : Format) (medium : Option Disk) (bay : ℕ) (old : StationState) (code : Code) (new : StationState) : Type 0 where
  pub device : IsDeviceRefusal code
  pub undisturbed : IsUndisturbed bay old.counters new.counters → code ≡ NoMark
  pub overrun : code ≡ Overrun → RoseBy 1 old.counters.stalls new.counters.stalls
  pub lost : code ≡ Seek → FaultsRoseBy 77 bay old.counters new.counters
  -- code 40 says that the last attempt sent no data command, and any other code says that it sent one. Codes 04 and 10
  -- say that it read back, after a format that was done
  pub unsent : code ≡ Seek
      → new.counters.data_commands ≤ old.counters.data_commands + (old.tries - 1) * (1 + sectors_at format.rate)
  pub sent : code ≢ Seek → RoseBy 1 old.counters.data_commands new.counters.data_commands
  pub read_back : (code ≡ NotFound ⊎ code ≡ BadCrc) → RoseBy 2 old.counters.data_commands new.counters.data_commands
  pub never : IsFormattable format medium → DisturbedLess (spoilable old.tries) bay old.counters new.counters → ⊥

-- a format that reached the drive: all that it changes is the medium in the bay, by a few layouts from the index on
pub record FormatsDrive (format : Format) (bay : ℕ) (old : StationState) (answer : Result (Unit {0}) Code) (new : StationState) : Type 0 where
  pub layings : List Laying
  pub few : length layings ≤ old.tries
  pub lays : Lays format (bay_of old bay).medium layings (bay_of new bay).medium
  pub only : IsFaultless bay old.counters new.counters → All (λ laying. laying.cylinder ≡ format.c) layings
  pub becomes : Becomes (set_bay old bay (record (bay_of old bay) { medium = (bay_of new bay).medium })) new
  pub exactly : IsUndisturbed bay old.counters new.counters
      → IsOk answer ↔ IsFormattable format (bay_of old bay).medium
  pub begun : IsUndisturbed bay old.counters new.counters
      → IsFormatted format (bay_of old bay).medium (bay_of new bay).medium
  pub untouched : IsUndisturbed bay old.counters new.counters
      → IsUnformatted format (bay_of old bay).medium (bay_of new bay).medium
  pub commands : IsOk answer → RoseBy (1 + sectors_at format.rate) old.counters.data_commands new.counters.data_commands
  pub formatted_track : IsOk answer → IsFaultless bay old.counters new.counters
      → IsFormattable format (bay_of old bay).medium × IsFormatted format (bay_of old bay).medium (bay_of new bay).medium
  pub refused : IfErr answer (λ code. IsFormatCause format (bay_of old bay).medium bay old code new)
  pub driven : IsDriven (old.tries * (1 + sectors_at format.rate)) old.counters new.counters
  pub costs : CostsUpTo (format_time old bay format.rate) (format_port_accesses old format.rate) old.counters new.counters

-- the step of a format
abbrev pub FormatsTo : ℕ → ℕ → ℕ → ℕ → ℕ → StationState → Result (Unit {0}) Code → StationState → Type 0
FormatsTo bay c h gap3 fill old answer new =
    MatchOption (format_refusal old bay c h gap3)
    (FormatsDrive (record { c = c; h = h; rate = (bay_of old bay).rate; gap3 = gap3; fill = fill }) bay old answer new)
    (λ code. IsRefusedAtOnce code old answer new)
