use Rattle.std.proofs.Common.{rules}
use Rattle.std.specs.Prelude.{Vec}
use Rattle.text_commands.proofs.Common.{Global, Request, job_of, bad_line_text}
use Rattle.text_commands.proofs.JobRounds.{parsed_plays, read_bad, run-ends, unparsed_tells}
use Rattle.text_commands.proofs.jobs.play_text.Goals as goal

pub returns-in-Ok-run_requests : goal.returns-in-Ok-run_requests
returns-in-Ok-run_requests g c = record {
  does = parsed_plays _ _ c.args.text.now c.deref.result.now c.in-Ok.requests.items c.finish.result c.in-Ok.ensures.read c.deref.ensures.value
      (run-ends _ _ _ c.deref.result.now c.in-Ok-run_requests.refused c.finish.result c.in-Ok-run_requests.ensures.goes
      c.finish.ensures.does.report c.finish.ensures.does.ends);
  is_form = search rules;
  shelf_faults = search rules;
  sink_faults = search rules;
  same = search rules;
}

pub returns-in-Ok : goal.returns-in-Ok
returns-in-Ok g c = record {
  does = parsed_plays _ _ c.args.text.now c.deref.result.now c.in-Ok.requests.items c.in-Err.ended c.in-Ok.ensures.read
      c.deref.ensures.value c.in-Err.ensures.goes;
  is_form = search rules;
  shelf_faults = search rules;
  sink_faults = search rules;
  same = search rules;
}

pub returns-in-Err-BadLine : goal.returns-in-Err-BadLine
returns-in-Err-BadLine g c = record {
  does = unparsed_tells _ _ c.args.text.now c.in-Err-BadLine.line c.finish-in-Err-BadLine.result
      (read_bad (λ (requests : Vec Request Global). requests.items) c.in-Err-BadLine.field-0 (job_of c.args.text.now) c.in-Err-BadLine.line
      c.in-Err-BadLine.ensures.read c.in-Err-BadLine.field-0-is) (c.finish-in-Err-BadLine.ensures.tells (bad_line_text c.in-Err-BadLine.line) c.bad_line.ensures);
  is_form = search rules;
  shelf_faults = search rules;
  sink_faults = search rules;
  same = search rules;
}
