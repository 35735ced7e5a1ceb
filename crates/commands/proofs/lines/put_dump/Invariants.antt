use Rattle.std.proofs.Common.{◌≡◌, ◌+◌, ◌*◌, ◌%◌}
use Rattle.commands.proofs.Common.{grown}
use Rattle.commands.proofs.DumpLines.{lines_below}
use Rattle.commands.proofs.lines.put_dump.Given as goal

abbrev pub invariant-loop-i : goal.invariant-loop-i
invariant-loop-i g l = record {
  told : g.K.Sink.told l.out ≡ grown (g.K.Sink.told l.fn.out) (lines_below l.fn.address l.content l.i);
  place : l.place ≡ (l.fn.address + 16 * l.i) % 4294967296;
  counts : g.K.Sink.fault_count l.out ≡ g.K.Sink.fault_count l.fn.out;
}
