use Rattle.std.proofs.Common.{rules}
use Rattle.commands.proofs.Common.{stopped_text}
use Rattle.commands.proofs.lines.put_last_stopped.Goals as goal

pub returns : goal.returns
returns g c = record {
  prints = c.put_last_line.ensures.prints (stopped_text c.args.request.now c.args.reason) c.stopped_line.ensures;
  only = search rules;
  faults = search rules;
}
