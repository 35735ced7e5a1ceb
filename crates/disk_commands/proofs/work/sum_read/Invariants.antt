use Rattle.std.proofs.Common.{◌≤◌, ◌≡◌, ◌*◌, sum}
use Rattle.disk_commands.proofs.Common.{bytes_from}
use Rattle.disk_commands.proofs.work.sum_read.Given as goal

abbrev pub invariant-loop-i : goal.invariant-loop-i
invariant-loop-i g l = record {
  total : l.sum ≡ sum (bytes_from (g.R.AnyRun.hand l.fn.run).world.state.station.memory l.fn.address l.i);
  small : l.sum ≤ 255 * l.i;
}
