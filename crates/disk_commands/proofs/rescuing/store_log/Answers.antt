use Rattle.std.proofs.Common.{rules, ◌∙◌}
use Rattle.disk_commands.proofs.RescueEndings.{log_stored}
use Rattle.disk_commands.proofs.rescuing.store_log.Goals as goal

pub returns : goal.returns
returns g c = record {
  does = log_stored _ _ _ c.args.lines.now _ _ _ _ _ _ c.as_str.ensures (c.deref.ensures.value ∙ c.in-Ok.ensures) c.outcome-outcome.ensures
      c.status.ensures (c.store_last.ensures.does _ c.last_line-line.ensures);
  is_form = search rules;
  shelf_faults = search rules;
  sink_faults = search rules;
  same = search rules;
}
