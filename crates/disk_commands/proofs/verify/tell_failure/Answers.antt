use Rattle.std.proofs.Common.{rules}
use Rattle.disk_commands.proofs.Common.{failure_line}
use Rattle.disk_commands.specs.Verify.{tells_failure}
use Rattle.disk_commands.proofs.verify.tell_failure.Goals as goal

pub returns-in-Refused : goal.returns-in-Refused
unfolding tells_failure
returns-in-Refused g c = record {
  goes = rw c.in-Refused.is (c.say.ensures.ran.goes (failure_line c.args.key c.in-Refused.reason) c.failure_line.ensures);
  is_form = search rules;
  shelf_faults = search rules;
  sink_faults = search rules;
  same = search rules;
}
