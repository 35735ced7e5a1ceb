use Rattle.std.proofs.Common.{◌≡◌, map, take, All}
use Rattle.remaster.proofs.Common.{IsKey, key_of}
use Rattle.remaster.proofs.relaid.keys_of.Given as goal

-- the keys so far
abbrev pub invariant-loop-sector : goal.invariant-loop-sector
invariant-loop-sector l = record {
  keys : l.keys.items ≡ map key_of (take l.sector-index l.sectors);
  bytes : All IsKey l.keys.items;
}
