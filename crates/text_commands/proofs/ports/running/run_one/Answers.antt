use Rattle.std.proofs.Common.{rules}
use Rattle.text_commands.specs.PortPlays.{AtStop, AtPut}
use Rattle.text_commands.proofs.ports.running.run_one.Goals as goal

pub returns-in-Err-put_answer : goal.returns-in-Err-put_answer
returns-in-Err-put_answer g c = record {
  goes = AtPut c.in-Ok.answer c.in-Err-put_answer.ensures.tells c.in-Ok.ensures.does c.ranges-in-Ok.ensures c.in-Err-put_answer.ensures.puts.err c.in-Err-put_answer.ensures.puts.only;
  named = search rules;
  is_form = search rules;
  shelf_faults = search rules;
  sink_faults = search rules;
}

pub returns-in-Err : goal.returns-in-Err
returns-in-Err g c = record {
  goes = AtStop c.in-Err.stop c.in-Err.ensures.does c.put_last.ensures.prints;
  named = search rules;
  is_form = search rules;
  shelf_faults = search rules;
  sink_faults = search rules;
}
