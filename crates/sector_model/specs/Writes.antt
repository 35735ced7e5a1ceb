-- A write of memory to a sector.
use Rattle.std.specs.Prelude.{◌≡◌, ◌≢◌, ◌↔◌, ℕ, ◌+◌, ◌-◌, ◌*◌, ◌≤◌, Bool, List, [], ◌∷◌, ◌++◌, length, All, Option, Some, None, Result, IsOk, IfErr, MatchOption, ◌⊎◌}
use Rattle.sector_model.specs.Common.{Chrn, Code, NoMark, NotFound, Overrun, BadCrc, Seek, Disk, HasTrack, track_of, IsWithTrack, IsAddressAt, content_size, content_at, LookAt, HasAddressMark, IsSector, IsUnder, IsLone, RoseBy, IsFaultless, FaultsRoseLess, IsUndisturbed, DisturbedLess, FaultsRoseBy, IsDriven, CostsUpTo, bytes_from, HasNoClearMark, HasClearAddress, HasLook}
use Rattle.track_model.specs.declared.Look.TheVariants as look
use Rattle.track_model.specs.Windows.{window_word, window_words, cut_of, IsCuttable, IsTidy}
use Rattle.track_model.specs.Regular.{IsRegular}
use Rattle.sector_map.specs.Disks.{IsRegularDisk, Entry, IsOnMap}
use Rattle.sector_model.specs.Stations.{StationState, Becomes, bay_of, set_bay, met, IsSteady}
use Rattle.sector_model.specs.Lasting.{write_port_accesses, write_time}
use Rattle.sector_model.specs.Orders.{write_refusal, IsRefusedAtOnce, IsDeviceRefusal}
use Rattle.sector_map.specs.Changes.{Change, Written, window_of, IsChange}
use Rattle.sector_map.specs.ChangedDisks.{entry_of}
use Rattle.sector_model.specs.Reads.{spoilable}

-- changes one after the other
abbrev pub ChangesDisk : Written → Disk → List Change → Disk → Type 0
ChangesDisk written disk [] after = after ≡ disk
ChangesDisk written disk (change ∷ later) after =
    (next : Disk) × IsChange written disk change next × ChangesDisk written next later after

-- Reach: what writes may have made of the medium in a bay
abbrev pub Reaches : Written → Option Disk → List Change → Option Disk → Type 0
Reaches written (Some disk) changes (Some after) = ChangesDisk written disk changes after
Reaches written (Some disk) changes None = ⊥
Reaches written None changes medium = (changes ≡ []) × (medium ≡ None)

-- the last change wrote the whole window
abbrev pub IsLastWhole : Written → List Change → Type 0
IsLastWhole written changes =
    (earlier : List Change) × (last : Change) × (changes ≡ earlier ++ last ∷ []) × (last.words ≡ length (window_of written))

-- the last change wrote the whole window, and the track that it changed has the sector
abbrev pub IsLastRead : Written → Disk → List Change → Type 0
IsLastRead written disk changes =
    (earlier : List Change) × (last : Change) × (changes ≡ earlier ++ last ∷ []) × (last.words ≡ length (window_of written))
    × IsSector (track_of disk last.cylinder written.key.h) written.key written.deleted written.content

-- a write was done: what is known of the disk
pub record IsWritten (written : Written) (bay : ℕ) (changes : List Change) (old new : StationState) : Type 0 where
  pub disk : Disk
  pub medium : (bay_of new bay).medium ≡ Some disk
  pub same_rate : disk.rate ≡ (bay_of old bay).rate
  pub under : (c : ℕ) × HasTrack disk c written.key.h
      × IsUnder (track_of disk c written.key.h) written.key written.deleted written.content
  pub last : IsFaultless bay old.counters new.counters → IsLastRead written disk changes
  pub commands : RoseBy 2 old.counters.data_commands new.counters.data_commands

-- on the track as it is after the write, some address field of the key has a window that isn't inside the track
abbrev pub HasWindowCut : List ℕ → Chrn → Type 0
HasWindowCut track key =
    (p : ℕ) × IsAddressAt track p key × (window_word p + window_words key.n ≤ length track → ⊥)

-- some address field of the key is found with another mark or another content
abbrev pub HasOtherContent : List ℕ → Written → Type 0
HasOtherContent track written =
    (p : ℕ) × (deleted : Bool) × (place : ℕ) × IsAddressAt track p written.key
    × LookAt track p written.key.n (look.Found deleted place)
    × ((deleted ≡ written.deleted) × (content_at track place written.key.n ≡ written.content) → ⊥)

-- why a write was refused, by what is met on the track before and after it
pub record IsWriteCause (written : Written) (before track : List ℕ) (changes : List Change) (bay : ℕ) (old : StationState) (code : Code) (new : StationState) : Type 0 where
  pub device : IsDeviceRefusal code
  pub no_mark : code ≡ NoMark → IsUndisturbed bay old.counters new.counters
      → (HasNoClearMark track ⊎ HasWindowCut track written.key
      ⊎ (IsLastWhole written changes × HasLook track written.key look.NoData))
  pub not_found : code ≡ NotFound → IsUndisturbed bay old.counters new.counters
      → HasAddressMark track × (HasClearAddress track written.key → ⊥)
  pub bad_data : code ≡ BadCrc → IsUndisturbed bay old.counters new.counters
      → IsLastWhole written changes × (HasLook track written.key look.BadCrc ⊎ HasOtherContent track written)
  pub overrun : code ≡ Overrun → RoseBy 1 old.counters.stalls new.counters.stalls
  pub lost : code ≡ Seek → FaultsRoseBy 77 bay old.counters new.counters
  -- code 40 says that the last attempt sent no data command, and any other code says that it sent one. Code 10 says
  -- that it read back, by a second command
  pub unsent : code ≡ Seek → new.counters.data_commands ≤ old.counters.data_commands + 2 * (old.tries - 1)
  pub sent : code ≢ Seek → RoseBy 1 old.counters.data_commands new.counters.data_commands
  pub read_back : code ≡ BadCrc → RoseBy 2 old.counters.data_commands new.counters.data_commands
  pub never : IsRegular before written.key.c written.key.h
      → (p : ℕ) → IsAddressAt before p written.key
      → (IsTidy before p written.deleted written.content ⊎ IsUndisturbed bay old.counters new.counters)
      → DisturbedLess (spoilable old.tries) bay old.counters new.counters → ⊥

-- a regular disk after a write behind the one address field of the key, at p: only that field changed
pub record ChangesAlone (written : Written) (bay p : ℕ) (disk : Disk) (old : StationState) (answer : Result (Unit {0}) Code) (new : StationState) : Type 0 where
  pub after : Disk
  pub words : ℕ
  pub medium : (bay_of new bay).medium ≡ Some after
  pub cuttable : IsCuttable (track_of disk written.key.c written.key.h) p words (window_of written)
  pub cut : IsWithTrack disk written.key.c written.key.h
      (cut_of (track_of disk written.key.c written.key.h) p words (window_of written)) after
  pub regular : IsRegularDisk after
  pub others : (entry : Entry) → entry.key ≢ written.key → IsOnMap disk entry ↔ IsOnMap after entry
  pub entry : IsOk answer
      → (FaultsRoseLess 2 bay old.counters new.counters ⊎ IsLone (track_of after written.key.c written.key.h) p)
      → IsOnMap after (entry_of written p)

-- what a write does to a regular disk
pub record KeepsRegular (written : Written) (bay : ℕ) (disk : Disk) (old : StationState) (answer : Result (Unit {0}) Code) (new : StationState) : Type 0 where
  pub none : ((p : ℕ) → IsAddressAt (met (bay_of old bay) written.key.c written.key.h) p written.key → ⊥)
      → (bay_of new bay).medium ≡ Some disk
  pub one : (p : ℕ) → IsAddressAt (met (bay_of old bay) written.key.c written.key.h) p written.key
      → (IsTidy (met (bay_of old bay) written.key.c written.key.h) p written.deleted written.content
      ⊎ IsUndisturbed bay old.counters new.counters)
      → ChangesAlone written bay p disk old answer new

-- a write that reached the drive: all that it changes is the medium in the bay, by a few cuts
pub record WritesDrive (written : Written) (bay : ℕ) (old : StationState) (answer : Result (Unit {0}) Code) (new : StationState) : Type 0 where
  pub changes : List Change
  pub few : length changes ≤ old.tries
  pub reach : Reaches written (bay_of old bay).medium changes (bay_of new bay).medium
  pub becomes : Becomes (set_bay old bay (record (bay_of old bay) { medium = (bay_of new bay).medium })) new
  pub steady : IsSteady bay old new → All (λ change. change.cylinder ≡ written.key.c) changes
  pub done : IsOk answer → IsWritten written bay changes old new
  pub refused : IfErr answer (λ code. IsWriteCause written (met (bay_of old bay) written.key.c written.key.h)
      (met (bay_of new bay) written.key.c written.key.h) changes bay old code new)
  pub regular : (disk : Disk) → (bay_of old bay).medium ≡ Some disk → IsRegularDisk disk
      → KeepsRegular written bay disk old answer new
  pub driven : IsDriven (2 * old.tries) old.counters new.counters
  pub costs : CostsUpTo (write_time old bay) (write_port_accesses old) old.counters new.counters

-- what a write from this address writes
abbrev pub written_from : StationState → Chrn → ℕ → Bool → Written
written_from station key address deleted =
    record { key = key; deleted = deleted; content = bytes_from station.memory address (content_size key.n) }

-- the step of a write
abbrev pub WritesTo : ℕ → Chrn → ℕ → Bool → StationState → Result (Unit {0}) Code → StationState → Type 0
WritesTo bay key address deleted old answer new =
    MatchOption (write_refusal old bay key address)
    (WritesDrive (written_from old key address deleted) bay old answer new)
    (λ code. IsRefusedAtOnce code old answer new)
