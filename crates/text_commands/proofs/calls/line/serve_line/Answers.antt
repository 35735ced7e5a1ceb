use Rattle.std.proofs.Common.{subst, sym}
use Rattle.text_commands.proofs.Common.{CallLine, LineGoes}
use Rattle.text_commands.proofs.ServedCalls.{job_line}
use Rattle.text_commands.proofs.calls.line.serve_line.Goals as goal

pub returns-in-Job : goal.returns-in-Job
returns-in-Job g c = record {
  goes = subst (λ (l : CallLine). LineGoes c.args.front.now c.args.front.now l (g.R.AnyRun.hand c.args.run.now).world c.run_one.result
      (g.R.AnyRun.hand c.run_one.new.run).world) (sym c.in-Job.is) (job_line _ c.args.front.now _ _ c.run_one.result c.run_one.ensures.goes);
  is_form = c.run_one.ensures.is_form;
  shelf_faults = c.run_one.ensures.shelf_faults;
  sink_faults = c.run_one.ensures.sink_faults;
  same = c.run_one.ensures.same;
}
