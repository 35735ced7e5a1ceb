-- Words of the proofs: a write in attempts so far.
use Rattle.std.proofs.Common.{None, [], ◌∷◌, ◌++◌, ◌≡◌, ◌≢◌, ℕ, ◌+◌, ◌-◌, ◌*◌, ◌≤◌, Bool, List, length, All, Option, Some, ◌⊎◌}
use Rattle.floppy_driver.proofs.Common.{RoseBy, Chrn, Code, NoMark, NotFound, Overrun, BadCrc, Seek, Disk, IsDisk, IsAddressAt, HasAddressMark, IsCut, IsTidy, IsRegular, DriveCounts, FaultsRoseBy, IsUndisturbed, DisturbedLess, GoesOn, IsDriven, faults_of, HasNoClearMark, HasClearAddress, HasLook, IsRegularDisk, Change, Written, window_of, FitsKey, IsSameOrChanged, StationState, Becomes, bay_of, set_bay, met, IsSteady, IsDeviceRefusal, Rig, Driver, shown, HasAsked, IsSure, Reaches, IsLastWhole, HasWindowCut, HasOtherContent, written_from, CanWrite}
use Rattle.track_model.specs.declared.Look.TheVariants as look
use Rattle.floppy_driver.proofs.SureAttempts.{sure_attempts}

-- what has to hold at the start, so that a regular disk stays regular
pub record IsWriteStart (written : Written) (bay : ℕ) (start : StationState) : Type 0 where
  pub fits : FitsKey written
  pub valid : (disk : Disk) → (bay_of start bay).medium ≡ Some disk → IsDisk disk
  pub some_tries : 1 ≤ start.tries

-- wherever a write stops, it makes no new address mark, or nothing disturbed the call
abbrev pub IsSpared : Written → ℕ → List ℕ → ℕ → StationState → StationState → Type 0
IsSpared written place track bay start now =
    IsTidy track place written.deleted written.content ⊎ IsUndisturbed bay start.counters now.counters

-- the track is as it was, or cut at the place of an address field. The cut may be of any length if the track is Tidy
-- there, and is whole otherwise
abbrev pub IsSameOrCut : Written → ℕ → List ℕ → List ℕ → Type 0
IsSameOrCut written place track now =
    (now ≡ track)
    ⊎ ((words : ℕ) × IsCut track now place words (window_of written)
    × (IsTidy track place written.deleted written.content ⊎ (words ≡ length (window_of written))))

-- the changes with one more, or with none
abbrev pub with_change : List Change → Option Change → List Change
with_change changes None = changes
with_change changes (Some one) = changes ++ one ∷ []

-- what attempts so far made of a regular disk
pub record KeptSoFar (written : Written) (bay : ℕ) (disk : Disk) (start now : StationState) : Type 0 where
  pub none : ((p : ℕ) → IsAddressAt (met (bay_of start bay) written.key.c written.key.h) p written.key → ⊥)
      → (bay_of now bay).medium ≡ Some disk
  pub one : (p : ℕ) → IsAddressAt (met (bay_of start bay) written.key.c written.key.h) p written.key
      → IsSpared written p (met (bay_of start bay) written.key.c written.key.h) bay start now
      → (after : Disk) × ((bay_of now bay).medium ≡ Some after) × IsSameOrChanged written p disk after

-- what attempts so far made of a regular track
abbrev pub KeptTrack : Written → ℕ → StationState → StationState → Type 0
KeptTrack written bay start now =
    IsRegular (met (bay_of start bay) written.key.c written.key.h) written.key.c written.key.h
    → (p : ℕ) → IsAddressAt (met (bay_of start bay) written.key.c written.key.h) p written.key
    → IsSpared written p (met (bay_of start bay) written.key.c written.key.h) bay start now
    → IsSameOrCut written p (met (bay_of start bay) written.key.c written.key.h) (met (bay_of now bay) written.key.c written.key.h)

-- `count` attempts were made
pub record WroteSoFar (written : Written) (bay count : ℕ) (start now : StationState) : Type 0 where
  pub changes : List Change
  pub few : length changes ≤ count
  pub reach : Reaches written (bay_of start bay).medium changes (bay_of now bay).medium
  pub becomes : Becomes (set_bay start bay (record (bay_of start bay) { medium = (bay_of now bay).medium })) now
  pub kept : (kept : ℕ) → (bay_of start bay).acknowledged ≡ Some kept → kept ≤ faults_of now.counters bay
  pub steady : IsSteady bay start now → All (λ change. change.cylinder ≡ written.key.c) changes
  pub regular : (disk : Disk) → (bay_of start bay).medium ≡ Some disk → IsRegularDisk disk → KeptSoFar written bay disk start now
  pub track : KeptTrack written bay start now
  pub counts : GoesOn start.counters now.counters
  pub driven : IsDriven (2 * count) start.counters now.counters

-- why the last attempt was refused, by what is met on the track after it
pub record IsLastCause (written : Written) (track : List ℕ) (changes : List Change) (bay : ℕ) (start : StationState) (code : Code) (now : StationState) : Type 0 where
  pub device : IsDeviceRefusal code
  pub no_mark : code ≡ NoMark → IsUndisturbed bay start.counters now.counters
      → (HasNoClearMark track ⊎ HasWindowCut track written.key
      ⊎ (IsLastWhole written changes × HasLook track written.key look.NoData))
  pub not_found : code ≡ NotFound → IsUndisturbed bay start.counters now.counters
      → HasAddressMark track × (HasClearAddress track written.key → ⊥)
  pub bad_data : code ≡ BadCrc → IsUndisturbed bay start.counters now.counters
      → IsLastWhole written changes × (HasLook track written.key look.BadCrc ⊎ HasOtherContent track written)
  pub overrun : code ≡ Overrun → RoseBy 1 start.counters.stalls now.counters.stalls
  pub lost : code ≡ Seek → FaultsRoseBy 77 bay start.counters now.counters
  pub sent : code ≢ Seek → RoseBy 1 start.counters.data_commands now.counters.data_commands
  pub read_back : code ≡ BadCrc → RoseBy 2 start.counters.data_commands now.counters.data_commands

-- `count` attempts were refused, the last of them with this code
pub record HasTriedWrite (written : Written) (bay count : ℕ) (start : StationState) (code : Code) (now : StationState) : Type 0 where
  pub so_far : WroteSoFar written bay count start now
  pub unsent : 1 ≤ count → code ≡ Seek → now.counters.data_commands ≤ start.counters.data_commands + 2 * (count - 1)
  pub last : 1 ≤ count → IsSure start.tries count
      → IsLastCause written (met (bay_of now bay) written.key.c written.key.h) so_far.changes bay start code now
  pub spoilt : IsRegular (met (bay_of start bay) written.key.c written.key.h) written.key.c written.key.h
      → (p : ℕ) → IsAddressAt (met (bay_of start bay) written.key.c written.key.h) p written.key
      → IsSpared written p (met (bay_of start bay) written.key.c written.key.h) bay start now
      → DisturbedLess (sure_attempts start.tries count) bay start.counters now.counters → ⊥

-- between two attempts of a call: `count` were made since the call began with the driver `first` and the machine `from`
pub record BetweenWrites (first : Driver) (from : Rig) (bay : ℕ) (key : Chrn) (address : ℕ) (deleted : Bool) (count : ℕ) (code : Code) (driver : Driver) (rig : Rig) : Type 0 where
  pub tries : driver.tries ≡ first.tries
  pub memory : rig.memory ≡ from.memory
  pub counts : GoesOn from.counters rig.counters
  pub ready : CanWrite driver rig bay
  pub tried : (start : StationState) (spares : ℕ) (waiting : List DriveCounts) → HasAsked start (shown first from spares waiting)
      → HasTriedWrite (written_from start key address deleted) bay count start code (shown driver rig spares waiting)
