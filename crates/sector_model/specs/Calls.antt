-- The other calls of a station: acknowledgement, rate, attempts, media, drives, memory.
use Rattle.std.specs.Prelude.{◌≡◌, ℕ, ◌-◌, ◌≤◌, slice_set, Option, Some, None, IsSome, Result, Ok, Err, IsOk, IfErr, MatchOption, MatchBool, Bool, not, ◌⊎◌}
use Rattle.sector_model.specs.Common.{Rate, R500, R250, Code, BadRequest, NotReady, Disk, track_of, IsAddress, IsClear, faults_of, FaultsRoseBy, FaultsRoseLess, TakesSpare, IsDriven, IsPastDriver, GoesOn, CostsUpTo}
use Rattle.sector_model.specs.Stations.{StationState, Becomes, Stays, bay_of, set_bay, fresh_bay}
use Rattle.sector_model.specs.Lasting.{ack_port_accesses, ack_time}
use Rattle.sector_model.specs.Orders.{is_bay, is_acknowledged, rate_refusal, IsRefusedAtOnce}

-- the track of cylinder 0 and head 0 has a Clear address field
abbrev pub HasClearStart : Disk → Type 0
HasClearStart disk = (p : ℕ) × IsClear (track_of disk 0 0) p × IsAddress (track_of disk 0 0) p

-- that track has no address field
abbrev pub HasNoStart : Disk → Type 0
HasNoStart disk = (p : ℕ) → IsAddress (track_of disk 0 0) p → ⊥

-- a bay was acknowledged: its drive's count is kept, and its rate comes from the track of cylinder 0 and head 0
pub record IsAcknowledged (bay : ℕ) (old new : StationState) : Type 0 where
  pub disk : Disk
  pub rate : Rate
  pub medium : (bay_of old bay).medium ≡ Some disk
  pub becomes : Becomes (set_bay old bay (record {
    medium = Some disk;
    acknowledged = Some (faults_of new.counters bay);
    rate = rate;
  })) new
  pub double : rate ≡ R250 → disk.rate ≡ R250
  pub told : FaultsRoseLess 3 bay old.counters new.counters → HasClearStart disk → rate ≡ disk.rate
  pub untold : FaultsRoseLess 3 bay old.counters new.counters → HasNoStart disk → rate ≡ R500

-- a bay could not be acknowledged: no medium is in, or its drive lost pulse after pulse
pub record IsUnready (bay : ℕ) (old : StationState) (code : Code) (new : StationState) : Type 0 where
  pub unready : code ≡ NotReady
  pub cause : ((bay_of old bay).medium ≡ None) ⊎ FaultsRoseBy 3 bay old.counters new.counters
  pub becomes : Becomes (set_bay old bay (fresh_bay (bay_of old bay).medium)) new

-- an acknowledgement that reached the drive
pub record AcksDrive (bay : ℕ) (old : StationState) (answer : Result (Unit {0}) Code) (new : StationState) : Type 0 where
  pub done : IsOk answer → IsAcknowledged bay old new
  pub refused : IfErr answer (λ code. IsUnready bay old code new)
  pub driven : IsDriven 6 old.counters new.counters
  pub costs : CostsUpTo (ack_time old bay) ack_port_accesses old.counters new.counters

-- the step of an acknowledgement
abbrev pub Acks : ℕ → StationState → Result (Unit {0}) Code → StationState → Type 0
Acks bay old answer new =
    MatchBool (is_bay bay) (AcksDrive bay old answer new) (IsRefusedAtOnce BadRequest old answer new)

-- the rate of a bay was set
pub record SetsRate (bay : ℕ) (rate : Rate) (old : StationState) (answer : Result (Unit {0}) Code) (new : StationState) : Type 0 where
  pub done : IsOk answer
  pub becomes : Becomes (set_bay old bay (record (bay_of old bay) { rate = rate })) new
  pub idle : IsDriven 0 old.counters new.counters
  pub costs : CostsUpTo 0 2 old.counters new.counters

-- the step of a change of the rate
abbrev pub RatesTo : ℕ → Rate → StationState → Result (Unit {0}) Code → StationState → Type 0
RatesTo bay rate old answer new =
    MatchOption (rate_refusal old bay) (SetsRate bay rate old answer new) (λ code. IsRefusedAtOnce code old answer new)

-- the number of attempts was set
pub record SetsTries (tries : ℕ) (old new : StationState) : Type 0 where
  pub becomes : Becomes (record old { tries = tries }) new
  pub idle : IsDriven 0 old.counters new.counters
  pub no_cost : CostsUpTo 0 0 old.counters new.counters

-- a question was answered: whether the medium was exchanged since the bay was acknowledged
pub record TellsChange (bay : ℕ) (old : StationState) (answer : Bool) (new : StationState) : Type 0 where
  pub changed : answer ≡ not (is_acknowledged old bay)
  pub stays : Stays old new
  pub idle : IsDriven 0 old.counters new.counters
  pub costs : CostsUpTo 0 2 old.counters new.counters

-- a call past the driver that changed nothing
pub record IsUnmoved (old new : StationState) : Type 0 where
  pub stays : Stays old new
  pub access : IsPastDriver 1 old.counters new.counters

-- a medium was put in, or taken out
pub record Exchanges (bay : ℕ) (medium : Option Disk) (old new : StationState) : Type 0 where
  pub becomes : Becomes (set_bay old bay (fresh_bay medium)) new
  pub access : IsPastDriver 1 old.counters new.counters

-- a medium is put in if none is in; else it is given back
abbrev pub Inserts : ℕ → Disk → StationState → Result (Unit {0}) Disk → StationState → Type 0
Inserts bay disk old (Ok _) new = ((bay_of old bay).medium ≡ None) × Exchanges bay (Some disk) old new
Inserts bay disk old (Err back) new = IsSome (bay_of old bay).medium × (back ≡ disk) × IsUnmoved old new

-- the medium is taken out, if one is in
pub record Ejects (bay : ℕ) (old : StationState) (answer : Option Disk) (new : StationState) : Type 0 where
  pub medium : answer ≡ (bay_of old bay).medium
  pub exchanged : IsSome answer → Exchanges bay None old new
  pub unmoved : answer ≡ None → IsUnmoved old new

-- the drive of a bay was exchanged for the next spare; the old one is dropped, with the medium in it
pub record IsExchanged (bay : ℕ) (old new : StationState) : Type 0 where
  pub becomes : Becomes (record (set_bay old bay (fresh_bay None)) { spares = old.spares - 1 }) new
  pub some : 1 ≤ old.spares
  pub counts : TakesSpare bay old.counters new.counters
  pub access : IsPastDriver 1 old.counters new.counters

-- no spare is left
pub record HasNoSpare (old new : StationState) : Type 0 where
  pub none : old.spares ≡ 0
  pub stays : Stays old new
  pub access : IsPastDriver 0 old.counters new.counters
  pub counts : GoesOn old.counters new.counters

-- the next spare takes a drive's place, if one is left
abbrev pub TakesUnit : ℕ → StationState → Bool → StationState → Type 0
TakesUnit bay old taken new = MatchBool taken (IsExchanged bay old new) (HasNoSpare old new)

-- a byte of user memory was set
pub record SetsMemory (address byte : ℕ) (old new : StationState) : Type 0 where
  pub becomes : Becomes (record old { memory = slice_set old.memory address byte }) new
  pub access : IsPastDriver 1 old.counters new.counters
