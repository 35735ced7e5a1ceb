use Rattle.std.proofs.Common.{rules, refl}
use Rattle.std.specs.Prelude.{Vec}
use Rattle.text_commands.proofs.Common.{Global, PortLine, ports_of, world_of}
use Rattle.text_commands.proofs.PortRounds.{parsed_plays, read_bad, unparsed_tells}
use Rattle.text_commands.proofs.ports.running.play_text.Goals as goal

pub returns-in-Ok : goal.returns-in-Ok
returns-in-Ok g c = record {
  does = parsed_plays (world_of g.D.Drive.state g.S.Shelf.told g.K.Sink.told c.args.machine.now c.args.names.now c.args.shelf.now c.args.out.now) (world_of g.D.Drive.state g.S.Shelf.told g.K.Sink.told c.play_lines.new.machine c.play_lines.new.names c.play_lines.new.shelf c.play_lines.new.out) c.args.text.now c.deref.result.now c.in-Ok.lines.items c.play_lines.result c.in-Ok.ensures c.deref.ensures.value c.play_lines.ensures.does;
  is_form = search rules;
  shelf_faults = search rules;
  sink_faults = search rules;
}

pub returns-in-Err-BadLine : goal.returns-in-Err-BadLine
returns-in-Err-BadLine g c = record {
  does = unparsed_tells (world_of g.D.Drive.state g.S.Shelf.told g.K.Sink.told c.args.machine.now c.args.names.now c.args.shelf.now c.args.out.now) (world_of g.D.Drive.state g.S.Shelf.told g.K.Sink.told c.args.machine.now c.args.names.now c.args.shelf.now c.put_last_bad_line.new.out) c.args.text.now c.in-Err-BadLine.line c.put_last_bad_line.result (read_bad (λ (read : Vec PortLine Global). read.items) c.in-Err-BadLine.field-0 (ports_of c.args.text.now) c.in-Err-BadLine.line c.in-Err-BadLine.ensures c.in-Err-BadLine.field-0-is) (record { bench = refl; prints = c.put_last_bad_line.ensures.prints });
  is_form = search rules;
  shelf_faults = search rules;
  sink_faults = search rules;
}
