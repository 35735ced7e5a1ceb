use Rattle.std.proofs.Common.{◌≡◌, ◌++◌}
use Rattle.disk_commands.proofs.Common.{bytes_from}
use Rattle.disk_commands.proofs.export.gather.Given as goal

abbrev pub invariant-loop-i : goal.invariant-loop-i
invariant-loop-i g l = l.flat.items ≡ l.fn.flat.items ++ bytes_from (g.R.AnyRun.hand l.fn.run).world.state.station.memory l.fn.address l.i
