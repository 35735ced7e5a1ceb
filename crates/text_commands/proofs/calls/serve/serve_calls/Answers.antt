use Rattle.std.proofs.Common.{rules, subst, List, ℕ}
use Rattle.text_commands.proofs.Common.{Runs, ServesCalls}
use Rattle.text_commands.proofs.RanCalls.{calls_run}
use Rattle.text_commands.proofs.ServedCalls.{text_serves, missed_serves}
use Rattle.text_commands.proofs.calls.serve.serve_calls.Goals as goal

pub returns-in-Ok : goal.returns-in-Ok
returns-in-Ok g c = record {
  does =
      subst (λ (n : List ℕ). Runs (ServesCalls n) (g.R.AnyRun.hand c.args.run.now).world (g.R.AnyRun.hand c.serve_text.new.run).world
      c.serve_text.result) c.as_str.ensures
      (calls_run c.as_str.result.now _ _ c.serve_text.result
      (text_serves _ _ _ c.as_str.result.now c.deref.result.now c.in-Ok.text c.serve_text.result c.in-Ok.ensures.goes c.deref.ensures.value
      c.serve_text.ensures.does));
  is_form = search rules;
  shelf_faults = search rules;
  sink_faults = search rules;
  same = search rules;
}

pub returns : goal.returns
returns g c = record {
  does =
      subst (λ (n : List ℕ). Runs (ServesCalls n) (g.R.AnyRun.hand c.args.run.now).world (g.R.AnyRun.hand c.load_text.new.self).world
      c.in-Err.ended) c.as_str.ensures
      (calls_run c.as_str.result.now _ _ c.in-Err.ended (missed_serves _ _ c.as_str.result.now c.in-Err.ended c.in-Err.ensures.goes));
  is_form = search rules;
  shelf_faults = search rules;
  sink_faults = search rules;
  same = search rules;
}
