use Rattle.std.proofs.Common.{rules}
use Rattle.commands.proofs.Common.{unfit_text}
use Rattle.commands.proofs.lines.put_last_unfit.Goals as goal

pub returns : goal.returns
returns g c = record {
  prints = c.put_last_line.ensures.prints (unfit_text c.args.c c.args.h) c.unfit_line.ensures;
  only = search rules;
  faults = search rules;
}
