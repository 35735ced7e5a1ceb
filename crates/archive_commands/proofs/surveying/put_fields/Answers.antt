use Rattle.std.proofs.Common.{rules}
use Rattle.commands.proofs.DumpLines.{on_err}
use Rattle.archive_commands.proofs.FieldLines.{line_put, line_cut}
use Rattle.archive_commands.proofs.surveying.put_fields.Goals as goal

pub returns-in_err-put_line : goal.returns-in_err-put_line
returns-in_err-put_line g c = record {
  ok = search rules;
  err = on_err c.from_residual.result
      (line_cut (g.K.Sink.told c.args.out.now) (g.K.Sink.told c.loop-line.out) (g.K.Sink.told c.put_line.new.out) c.args.lines.now c.loop-line.line-index _ c.loop-line.invariant.told c.loop-line-test.true (c.in_err-put_line.ensures.err _ c.field_line.ensures));
  only = search rules;
  faults = search rules;
}

pub loop-line-preserved : goal.loop-line-preserved
loop-line-preserved g c = record {
  told = line_put (g.K.Sink.told c.args.out.now) (g.K.Sink.told c.loop-line.out) (g.K.Sink.told c.put_line.new.out) c.args.lines.now c.loop-line.line-index _ c.loop-line.invariant.told c.loop-line-test.true (c.in_ok-put_line.ensures.ok _ c.field_line.ensures);
  counts = search rules;
}
