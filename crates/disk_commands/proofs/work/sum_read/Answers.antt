use Rattle.std.proofs.Common.{arith}
use Rattle.disk_commands.proofs.Working.{sum_more}
use Rattle.disk_commands.proofs.work.sum_read.Goals as goal

pub loop-i-preserved : goal.loop-i-preserved
loop-i-preserved g c =
    let memory = (g.R.AnyRun.hand c.args.run.now).world.state.station.memory in
    let more = sum_more memory c.args.address c.loop-i.i (omega (arith, c.memory.ensures.size)) in
    record {
      total = omega (arith, c.loop-i.invariant.total, c.memory.ensures.byte, more);
      small = omega (arith, c.loop-i.invariant.small);
    }
