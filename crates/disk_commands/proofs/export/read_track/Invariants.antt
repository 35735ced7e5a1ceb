use Rattle.disk_commands.proofs.Common.{IsTurning}
use Rattle.disk_commands.specs.Export.{reads_record}
use Rattle.disk_commands.proofs.export.read_track.Given as goal

abbrev pub invariant-loop-r : goal.invariant-loop-r
invariant-loop-r g l = IsTurning g.R.AnyRun.hand 1 l.fn.sectors (reads_record l.fn.c l.fn.h) l.fn.flat.items l.fn.run l.r l.flat.items l.run
