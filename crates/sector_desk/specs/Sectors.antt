-- Calls on single sectors.
use Rattle.std.specs.Prelude.{◌≡◌, ℕ, Bool, List, length, Result, IfOk, IsErr}
use Rattle.flop_base.specs.Lists.{with_items}
use Rattle.flop_base.specs.declared.answers.Code.{Code}
use Rattle.flop_base.specs.declared.key.Chrn.{Chrn}
use Rattle.flop_base.specs.Counters.{IsPastDriver}
use Rattle.flop_base.specs.Memory.{bytes_from}
use Rattle.sector_model.specs.Reads.{Reads, IsRead}
use Rattle.sector_model.specs.Stations.{StationState, Becomes}
use Rattle.sector_model.specs.Writes.{WritesTo}
use Rattle.sector_desk.specs.Desks.{sector_place}
use Rattle.sector_desk.specs.Quiet.{IsCalm}

-- bytes are put to the desk's place, and nothing else is changed
pub record Places (bytes : List ℕ) (old new : StationState) : Type 0 where
  pub becomes : Becomes (record old { memory = with_items old.memory sector_place bytes }) new
  pub access : IsPastDriver (length bytes) old.counters new.counters

-- a sector is read, and the buffer gets the content of its field; if the read is refused, the buffer stays as it was
pub record ReadsSector (bay : ℕ) (key : Chrn) (old : StationState) (answer : Result Bool Code) (before content : List ℕ) (new : StationState) : Type 0 where
  pub step : Reads bay key sector_place old answer new
  pub had : IfOk answer (λ deleted. (field : IsRead bay key sector_place old deleted new) × (content ≡ field.content))
  pub kept : IsErr answer → content ≡ before
  pub calm : IsCalm bay old new

-- bytes are put to the desk's place, and the sector of a key is written from there
pub record WritesSector (bay : ℕ) (key : Chrn) (bytes : List ℕ) (deleted : Bool) (old : StationState) (answer : Result (Unit {0}) Code) (new : StationState) : Type 0 where
  pub placed : StationState
  pub places : Places bytes old placed
  pub there : bytes_from placed.memory sector_place (length bytes) ≡ bytes
  pub step : WritesTo bay key sector_place deleted placed answer new
  pub calm : IsCalm bay placed new
