-- A read of a sector to memory.
use Rattle.std.specs.Prelude.{◌≡◌, ◌≢◌, ℕ, ◌+◌, ◌-◌, ◌≤◌, Bool, List, max, Some, Result, IfOk, IfErr, MatchOption, ◌⊎◌}
use Rattle.sector_model.specs.Common.{Chrn, Code, NoMark, NotFound, Overrun, BadCrc, Seek, Disk, HasTrack, track_of, IsAddressAt, IsDataMark, IsWhole, content_size, HasAddressMark, IsSector, IsLone, RoseBy, IsFaultless, IsUndisturbed, DisturbedLess, FaultsRoseBy, IsDriven, CostsUpTo, with_items, SameOutside, HasNoClearMark, HasClearAddress, HasLook, AllFound}
use Rattle.track_model.specs.declared.Look.TheVariants as look
use Rattle.sector_model.specs.Stations.{StationState, Becomes, bay_of, met, IsSteady}
use Rattle.sector_model.specs.Lasting.{read_port_accesses, read_time}
use Rattle.sector_model.specs.Orders.{read_refusal, IsRefusedAtOnce, IsDeviceRefusal}

-- with `tries` attempts, all is well in one of them if faults and stalls rose by less than this number
abbrev pub spoilable : ℕ → ℕ
spoilable tries = max 1 (tries - 1)

-- a field of the key was read: its address field is at `place`, its data mark is at `mark`, and the rest says what is
-- known of them
pub record IsRead (bay : ℕ) (key : Chrn) (address : ℕ) (old : StationState) (deleted : Bool) (new : StationState) : Type 0 where
  pub disk : Disk
  pub cylinder : ℕ
  pub place : ℕ
  pub mark : ℕ
  pub content : List ℕ
  pub medium : (bay_of old bay).medium ≡ Some disk
  pub same_rate : disk.rate ≡ (bay_of old bay).rate
  pub track : HasTrack disk cylinder key.h
  pub address_field : IsAddressAt (track_of disk cylinder key.h) place key
  pub data_mark : IsDataMark (track_of disk cylinder key.h) place mark deleted
  pub whole : IsWhole (track_of disk cylinder key.h) mark key.n content
  pub steady : IsSteady bay old new → cylinder ≡ key.c
  pub sector : (IsFaultless bay old.counters new.counters ⊎ IsLone (track_of disk cylinder key.h) place)
      → IsSector (track_of disk cylinder key.h) key deleted content
  pub becomes : Becomes (record old { memory = with_items old.memory address content }) new
  pub commands : RoseBy 1 old.counters.data_commands new.counters.data_commands

-- why a read of what is met on the track was refused
pub record IsReadCause (track : List ℕ) (key : Chrn) (tries bay : ℕ) (old : StationState) (code : Code) (new : StationState) : Type 0 where
  pub device : IsDeviceRefusal code
  pub no_mark : code ≡ NoMark → IsUndisturbed bay old.counters new.counters
      → (HasNoClearMark track ⊎ HasLook track key look.NoData)
  pub not_found : code ≡ NotFound → IsUndisturbed bay old.counters new.counters
      → HasAddressMark track × (HasClearAddress track key → ⊥)
  pub bad_data : code ≡ BadCrc → IsUndisturbed bay old.counters new.counters → HasLook track key look.BadCrc
  pub overrun : code ≡ Overrun → RoseBy 1 old.counters.stalls new.counters.stalls
  pub lost : code ≡ Seek → FaultsRoseBy 77 bay old.counters new.counters
  -- code 40 says that the last attempt sent no data command, and any other code says that it sent one
  pub unsent : code ≡ Seek → new.counters.data_commands ≤ old.counters.data_commands + (tries - 1)
  pub sent : code ≢ Seek → RoseBy 1 old.counters.data_commands new.counters.data_commands
  pub never : HasClearAddress track key → AllFound track key
      → DisturbedLess (spoilable tries) bay old.counters new.counters → ⊥

-- a read was refused by the drive: its range of memory may hold anything
pub record IsReadRefused (bay : ℕ) (key : Chrn) (address : ℕ) (old : StationState) (code : Code) (new : StationState) : Type 0 where
  pub cause : IsReadCause (met (bay_of old bay) key.c key.h) key old.tries bay old code new
  pub memory : SameOutside address (content_size key.n) old.memory new.memory
  pub becomes : Becomes (record old { memory = new.memory }) new

-- a read that reached the drive
pub record ReadsDrive (bay : ℕ) (key : Chrn) (address : ℕ) (old : StationState) (answer : Result Bool Code) (new : StationState) : Type 0 where
  pub found : IfOk answer (λ deleted. IsRead bay key address old deleted new)
  pub refused : IfErr answer (λ code. IsReadRefused bay key address old code new)
  pub driven : IsDriven old.tries old.counters new.counters
  pub costs : CostsUpTo (read_time old bay) (read_port_accesses old) old.counters new.counters

-- the step of a read; the answer says whether the field is marked deleted
abbrev pub Reads : ℕ → Chrn → ℕ → StationState → Result Bool Code → StationState → Type 0
Reads bay key address old answer new =
    MatchOption (read_refusal old bay key address) (ReadsDrive bay key address old answer new)
    (λ code. IsRefusedAtOnce code old answer new)
