use Rattle.std.proofs.Common.{rules}
use Rattle.text_commands.proofs.ServedCalls.{served_ends, broken_serving}
use Rattle.text_commands.proofs.calls.serve.serve_all.Goals as goal

pub returns-in-Ok : goal.returns-in-Ok
returns-in-Ok g c = record {
  does = served_ends _ _ _ c.args.lines.now c.in-Ok.refused c.finish.result c.in-Ok.ensures.goes c.finish.ensures.does.report c.finish.ensures.does.ends;
  is_form = search rules;
  shelf_faults = search rules;
  sink_faults = search rules;
  same = search rules;
}

pub returns-in-Err : goal.returns-in-Err
returns-in-Err g c = record {
  does = broken_serving _ _ c.args.lines.now c.in-Err.ended c.in-Err.ensures.goes;
  is_form = search rules;
  shelf_faults = search rules;
  sink_faults = search rules;
  same = search rules;
}
