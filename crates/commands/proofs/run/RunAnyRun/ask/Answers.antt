use Rattle.std.proofs.Common.{rules, refl}
use Rattle.commands.proofs.Running.{asked_on, asked_stops}
use Rattle.commands.proofs.run.RunAnyRun.ask.Goals as goal

pub returns-in-Ok-clause-ran : goal.returns-in-Ok-clause-ran
returns-in-Ok-clause-ran g c = record {
  goes = λ whole start rest leads. asked_on whole start c.args.request.now rest c.in-Ok.reply _ _ c.in-Ok.ensures.step refl leads;
  is_form = search rules;
  shelf_faults = search rules;
  sink_faults = search rules;
  same = search rules;
}

pub returns-in-Err-clause-ran : goal.returns-in-Err-clause-ran
returns-in-Err-clause-ran g c = record {
  goes = λ whole start rest leads. asked_stops whole start c.args.request.now rest c.in-Err.stop _ _ c.put_last.result c.in-Err.ensures.stop
      c.put_last.ensures.prints leads;
  is_form = search rules;
  shelf_faults = search rules;
  sink_faults = search rules;
  same = search rules;
}

pub returns-in-Err-clause-asks : goal.returns-in-Err-clause-asks
returns-in-Err-clause-asks g c = (c.in-Err.stop, c.in-Err.ensures.stop, c.put_last.ensures.prints)
