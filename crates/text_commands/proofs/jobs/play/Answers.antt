use Rattle.std.proofs.Common.{rules}
use Rattle.text_commands.proofs.JobRounds.{text_plays, missed_plays}
use Rattle.text_commands.proofs.jobs.play.Goals as goal

pub returns-in-Ok : goal.returns-in-Ok
returns-in-Ok g c = record {
  does = text_plays _ _ _ c.args.job.now c.deref.result.now c.in-Ok.text c.play_text.result c.in-Ok.ensures.goes c.deref.ensures.value c.play_text.ensures.does;
  is_form = search rules;
  shelf_faults = search rules;
  sink_faults = search rules;
  same = search rules;
}

pub returns-in-Err : goal.returns-in-Err
returns-in-Err g c = record {
  does = missed_plays _ _ c.args.job.now c.in-Err.ended c.in-Err.ensures.goes;
  is_form = search rules;
  shelf_faults = search rules;
  sink_faults = search rules;
  same = search rules;
}
