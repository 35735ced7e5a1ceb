use Rattle.std.proofs.Common.{ℕ, ◌<◌, MatchBool}
use Rattle.sector_map.proofs.Common.{IsAddressMark, IsAddressAt, HasAddressMark}
use Rattle.sector_map.proofs.looking.find_address.Given as goal

abbrev pub invariant-loop-p : goal.invariant-loop-p
invariant-loop-p l = record {
  none_before : (k : ℕ) → k < l.p → IsAddressAt l.words k l.key → ⊥;
  seen : MatchBool l.has_mark (HasAddressMark l.words) ((k : ℕ) → k < l.p → IsAddressMark l.words k → ⊥);
}
