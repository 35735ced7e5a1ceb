use Rattle.std.proofs.Common.{◌≡◌, take}
use Rattle.flop_base.specs.Sink.{grown}
use Rattle.archive_commands.specs.Surveys.{field_lines}
use Rattle.archive_commands.proofs.surveying.put_fields.Given as goal

abbrev pub invariant-loop-line : goal.invariant-loop-line
invariant-loop-line g l = record {
  told : g.K.Sink.told l.out ≡ grown (g.K.Sink.told l.fn.out) (field_lines (take l.line-index l.lines));
  counts : g.K.Sink.fault_count l.out ≡ g.K.Sink.fault_count l.fn.out;
}
