use Rattle.std.proofs.Common.{◌≡◌, take}
use Rattle.remaster.proofs.Common.{flat_map, found_at}
use Rattle.remaster.proofs.sectors.list_sectors.Given as goal

-- the sectors of the fields so far
abbrev pub invariant-loop-one : goal.invariant-loop-one
invariant-loop-one l = l.sectors.items ≡ flat_map (found_at l.words) (take l.one-index l.one-items)
