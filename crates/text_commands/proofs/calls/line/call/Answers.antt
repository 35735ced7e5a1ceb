use Rattle.std.proofs.Common.{rules}
use Rattle.text_commands.proofs.Common.{call_text}
use Rattle.text_commands.proofs.ServedCalls.{told_call, cut_call}
use Rattle.text_commands.proofs.calls.line.call.Goals as goal

pub returns-in-Ok : goal.returns-in-Ok
returns-in-Ok g c = record {
  goes = λ line is. told_call line c.args.regs c.args.front.now c.int13-answered.new.front _ _ _ c.int13-answered.result is
      c.int13-answered.ensures.serves c.int13-answered.ensures.alone.files c.int13-answered.ensures.alone.report
      (c.in-Ok.ensures.puts (call_text c.int13-answered.result) c.call_line.ensures);
  is_form = search rules;
  shelf_faults = search rules;
  sink_faults = search rules;
  same = search rules;
}

pub returns-in-Err : goal.returns-in-Err
returns-in-Err g c = record {
  goes = λ line is. cut_call line c.args.regs c.args.front.now c.int13-answered.new.front _ _ _ c.int13-answered.result c.in-Err.ended is
      c.int13-answered.ensures.serves c.int13-answered.ensures.alone.files c.int13-answered.ensures.alone.report
      (c.in-Err.ensures.puts (call_text c.int13-answered.result) c.call_line.ensures);
  is_form = search rules;
  shelf_faults = search rules;
  sink_faults = search rules;
  same = search rules;
}
