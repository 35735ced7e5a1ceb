use Rattle.std.proofs.Common.{rules, sym}
use Rattle.disk_commands.proofs.records.give_up.Goals as goal

pub returns : goal.returns
returns g c = record {
  does = c.finish.ensures.ran.does _ (rw (sym c.read_request.ensures) c.stopped_line-line.ensures);
  is_form = search rules;
  shelf_faults = search rules;
  sink_faults = search rules;
  same = search rules;
}
