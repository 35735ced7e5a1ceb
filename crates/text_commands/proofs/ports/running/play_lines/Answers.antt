use Rattle.std.proofs.Common.{rules, refl}
use Rattle.text_commands.proofs.Common.{world_of}
use Rattle.text_commands.proofs.PortRounds.{run-ends}
use Rattle.text_commands.proofs.ports.running.play_lines.Goals as goal

pub returns-in-Ok : goal.returns-in-Ok
returns-in-Ok g c = record {
  does = run-ends (world_of g.D.Drive.state g.S.Shelf.told g.K.Sink.told c.args.machine.now c.args.names.now c.args.shelf.now c.args.out.now) (world_of g.D.Drive.state g.S.Shelf.told g.K.Sink.told c.run_lines.new.machine c.run_lines.new.names c.run_lines.new.shelf c.run_lines.new.out) (world_of g.D.Drive.state g.S.Shelf.told g.K.Sink.told c.finish.new.machine c.finish.new.names c.finish.new.shelf c.run_lines.new.out) c.args.lines.now c.in-Ok.refused c.finish.result c.in-Ok.ensures.goes refl c.finish.ensures.ends;
  is_form = search rules;
  shelf_faults = search rules;
  sink_faults = search rules;
}
