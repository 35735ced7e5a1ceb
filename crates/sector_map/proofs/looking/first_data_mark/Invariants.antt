use Rattle.std.proofs.Common.{ℕ, Bool, ◌<◌}
use Rattle.sector_map.proofs.Common.{IsDataMark}
use Rattle.sector_map.proofs.looking.first_data_mark.Given as goal

-- no data mark begins at the cells passed so far
abbrev pub invariant-loop-q : goal.invariant-loop-q
invariant-loop-q l = (k : ℕ) (deleted : Bool) → k < l.q → IsDataMark l.words l.place k deleted → ⊥
