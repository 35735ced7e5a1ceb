use Rattle.std.proofs.Common.{rules, subst, sym, List}
use Rattle.std.specs.Prelude.{Vec, All}
use Rattle.text_commands.proofs.Common.{Global, calls_of, CallLine, bad_line_text, LineHasTries}
use Rattle.text_commands.proofs.ParsedCalls.{all_tries}
use Rattle.text_commands.proofs.ServedCalls.{parsed_serves, read_bad, unparsed_tells}
use Rattle.text_commands.proofs.calls.serve.serve_text.Goals as goal

pub serve_all-requires : goal.serve_all-requires
serve_all-requires g c =
    subst (λ (l : List CallLine). All LineHasTries l) (sym c.deref.ensures.value) (all_tries c.args.text.now c.in-Ok.lines.items c.in-Ok.ensures)

pub returns-in-Ok : goal.returns-in-Ok
returns-in-Ok g c = record {
  does = parsed_serves _ _ c.args.text.now c.deref.result.now c.in-Ok.lines.items c.serve_all.result c.in-Ok.ensures c.deref.ensures.value
      c.serve_all.ensures.does;
  is_form = search rules;
  shelf_faults = search rules;
  sink_faults = search rules;
  same = search rules;
}

pub returns-in-Err-BadLine : goal.returns-in-Err-BadLine
returns-in-Err-BadLine g c = record {
  does = unparsed_tells _ _ c.args.text.now c.in-Err-BadLine.line c.finish.result
      (read_bad (λ (lines : Vec CallLine Global). lines.items) c.in-Err-BadLine.field-0 (calls_of c.args.text.now) c.in-Err-BadLine.line
      c.in-Err-BadLine.ensures c.in-Err-BadLine.field-0-is) (c.finish.ensures.tells (bad_line_text c.in-Err-BadLine.line) c.bad_line.ensures);
  is_form = search rules;
  shelf_faults = search rules;
  sink_faults = search rules;
  same = search rules;
}
