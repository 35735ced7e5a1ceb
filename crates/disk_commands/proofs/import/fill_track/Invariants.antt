use Rattle.disk_commands.proofs.Common.{IsTurning, record_address, fills_record}
use Rattle.sector_map.specs.Flat.{sector_place}
use Rattle.disk_commands.proofs.import.fill_track.Given as goal

abbrev pub invariant-loop-r : goal.invariant-loop-r
invariant-loop-r g l = IsTurning g.R.AnyRun.hand 1 l.fn.sectors (λ r. fills_record l.fn.flat (sector_place l.fn.sectors l.fn.c l.fn.h r) (record_address r)) tt l.fn.run l.r tt l.run
