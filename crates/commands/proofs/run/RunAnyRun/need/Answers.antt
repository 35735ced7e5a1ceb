use Rattle.std.proofs.Common.{rules, refl, sym}
use Rattle.commands.proofs.Running.{needed_on, needed_refused, needed_stops}
use Rattle.commands.proofs.run.RunAnyRun.need.Goals as goal

pub returns-in-Some-clause-ran : goal.returns-in-Some-clause-ran
returns-in-Some-clause-ran g c = record {
  goes = λ whole start rest leads. needed_refused whole start c.args.request.now rest c.in-Some.reason _ _ c.put_last_stopped.result
      (rw (sym c.in-Some.ensures) c.in-Ok.ensures.step) c.put_last_stopped.ensures.prints leads;
  is_form = search rules;
  shelf_faults = search rules;
  sink_faults = search rules;
  same = search rules;
}

pub returns-in-None-clause-ran : goal.returns-in-None-clause-ran
returns-in-None-clause-ran g c = record {
  goes = λ whole start rest leads. needed_on whole start c.args.request.now rest c.in-Ok.reply _ _ c.in-None.ensures c.in-Ok.ensures.step refl leads;
  is_form = search rules;
  shelf_faults = search rules;
  sink_faults = search rules;
  same = search rules;
}

pub returns-in-Err-clause-ran : goal.returns-in-Err-clause-ran
returns-in-Err-clause-ran g c = record {
  goes = λ whole start rest leads. needed_stops whole start c.args.request.now rest c.in-Err.stop _ _ c.put_last.result c.in-Err.ensures.stop
      c.put_last.ensures.prints leads;
  is_form = search rules;
  shelf_faults = search rules;
  sink_faults = search rules;
  same = search rules;
}
