use Rattle.std.proofs.Common.{rules, refl}
use Rattle.commands.proofs.run.RunAnyRun.end.Goals as goal

pub returns-in-Err : goal.returns-in-Err
returns-in-Err g c = record {
  goes = (c.in-Err.stop, c.in-Err.ensures.stop.0, c.in-Err.ensures.stop.1, c.stop_status.ensures, refl);
  is_form = search rules;
  shelf_faults = search rules;
  sink_faults = search rules;
  same = search rules;
}
