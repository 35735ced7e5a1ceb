use Rattle.std.proofs.Common.{◌≡◌, take}
use Rattle.text_commands.proofs.Common.{board, AreNamed, world_of}
use Rattle.text_commands.specs.PortPlays.{HasRun}
use Rattle.text_commands.proofs.ports.running.run_lines.Given as goal

abbrev pub invariant-loop-line : goal.invariant-loop-line
invariant-loop-line g l = record {
  run : HasRun (take l.line-index l.lines) (world_of g.D.Drive.state g.S.Shelf.told g.K.Sink.told l.fn.machine l.fn.names l.fn.shelf l.fn.out) l.refused (world_of g.D.Drive.state g.S.Shelf.told g.K.Sink.told l.machine l.names l.shelf l.out);
  named : AreNamed l.names (board g.D.Drive.state l.machine);
  shelf_counts : g.S.Shelf.fault_count l.shelf ≡ g.S.Shelf.fault_count l.fn.shelf;
  sink_counts : g.K.Sink.fault_count l.out ≡ g.K.Sink.fault_count l.fn.out;
}
