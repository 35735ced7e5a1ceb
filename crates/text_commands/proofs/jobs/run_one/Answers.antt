use Rattle.std.proofs.Common.{rules}
use Rattle.text_commands.proofs.JobRounds.{told_round, told_cut, told_stop}
use Rattle.text_commands.proofs.jobs.run_one.Goals as goal

pub returns-in-Ok-tell : goal.returns-in-Ok-tell
returns-in-Ok-tell g c = record {
  goes = told_round c.args.request.now c.in-Ok.reply c.is_refusal.result _ _ _ c.in-Ok.ensures.asks c.in-Ok-tell.ensures.goes c.is_refusal.ensures;
  is_form = search rules;
  shelf_faults = search rules;
  sink_faults = search rules;
  same = search rules;
}

pub returns-in-Ok : goal.returns-in-Ok
returns-in-Ok g c = record {
  goes = told_cut c.args.request.now c.in-Ok.reply _ _ _ c.in-Err-tell.ended c.in-Ok.ensures.asks c.in-Err-tell.ensures.goes;
  is_form = search rules;
  shelf_faults = search rules;
  sink_faults = search rules;
  same = search rules;
}

pub returns : goal.returns
returns g c = record {
  goes = told_stop c.args.request.now _ _ c.in-Err.ended c.in-Err.ensures.asks;
  is_form = search rules;
  shelf_faults = search rules;
  sink_faults = search rules;
  same = search rules;
}
