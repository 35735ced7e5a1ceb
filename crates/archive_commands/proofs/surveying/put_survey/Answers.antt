use Rattle.std.proofs.Common.{rules, length}
use Rattle.archive_commands.specs.Surveys.{end_line}
use Rattle.archive_commands.proofs.FieldLines.{end_put, fields_cut}
use Rattle.archive_commands.proofs.surveying.put_survey.Goals as goal

pub returns-in-Ok : goal.returns-in-Ok
returns-in-Ok g c = record {
  prints = end_put _ _ _ c.args.lines.now _ c.in-Ok.ensures.ok (c.put_last_line.ensures.prints (end_line (length c.args.lines.now)) c.end_line.ensures);
  only = search rules;
  faults = search rules;
}

pub returns-in-Err : goal.returns-in-Err
returns-in-Err g c = record {
  prints = fields_cut _ _ c.args.lines.now _ c.in-Err.ensures.err c.in-Err.ensures.only;
  only = search rules;
  faults = search rules;
}
