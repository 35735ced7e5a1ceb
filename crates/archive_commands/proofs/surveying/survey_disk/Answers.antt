use Rattle.std.proofs.Common.{rules, Ok, Err}
use Rattle.archive_commands.proofs.surveying.survey_disk.Goals as goal

pub returns-in-Ok : goal.returns-in-Ok
returns-in-Ok g c = record {
  does = (Ok c.in-Ok.lines.items, c.in-Ok.ensures.gives, c.in-Ok.ensures.stays, rw c.deref.ensures.value at c.put_survey.ensures.prints);
  is_form = search rules;
  shelf_faults = search rules;
  sink_faults = search rules;
}

pub returns : goal.returns
returns g c = record {
  does = (Err c.in-Err.stop, c.in-Err.ensures.gives, c.in-Err.ensures.stays, c.put_last.ensures.prints);
  is_form = search rules;
  shelf_faults = search rules;
  sink_faults = search rules;
}
