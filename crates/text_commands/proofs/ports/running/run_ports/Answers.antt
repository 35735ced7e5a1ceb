use Rattle.std.proofs.Common.{rules}
use Rattle.text_commands.proofs.Common.{board, world_of}
use Rattle.text_commands.proofs.GuardingPorts.{ran_bare}
use Rattle.text_commands.proofs.PortRounds.{text_plays, missed_plays, world_with}
use Rattle.text_commands.proofs.ports.running.run_ports.Goals as goal

pub returns-in-Ok : goal.returns-in-Ok
returns-in-Ok g c = record {
  does = (
    c.play_text.new.names,
    ran_bare (board g.D.Drive.state c.args.machine.now) c.new-names.result (g.S.Shelf.told c.args.shelf.now) (g.K.Sink.told c.args.out.now) (world_of g.D.Drive.state g.S.Shelf.told g.K.Sink.told c.play_text.new.machine c.play_text.new.names c.play_text.new.shelf c.play_text.new.out) c.args.text_name.now c.play_text.result c.new-names.ensures c.ranges-2.ensures
        (text_plays (board g.D.Drive.state c.args.machine.now) c.new-names.result (g.S.Shelf.told c.args.shelf.now) (g.S.Shelf.told c.load.new.self) (g.K.Sink.told c.args.out.now) (world_of g.D.Drive.state g.S.Shelf.told g.K.Sink.told c.play_text.new.machine c.play_text.new.names c.play_text.new.shelf c.play_text.new.out) c.args.text_name.now c.deref.result.now c.in-Ok.text c.play_text.result c.in-Ok.ensures.stays c.deref.ensures.value c.in-Ok.ensures.gives c.play_text.ensures.does),
  );
  is_form = search rules;
  shelf_faults = search rules;
  sink_faults = search rules;
}

pub returns : goal.returns
returns g c = record {
  does = (
    c.new-names.result,
    ran_bare (board g.D.Drive.state c.args.machine.now) c.new-names.result (g.S.Shelf.told c.args.shelf.now) (g.K.Sink.told c.args.out.now) (world_with (board g.D.Drive.state c.args.machine.now) c.new-names.result (g.S.Shelf.told c.load.new.self) (g.K.Sink.told c.tell_missing_text.new.out)) c.args.text_name.now c.tell_missing_text.result c.new-names.ensures c.ranges-2.ensures
        (missed_plays (board g.D.Drive.state c.args.machine.now) c.new-names.result (g.S.Shelf.told c.args.shelf.now) (g.S.Shelf.told c.load.new.self) (g.K.Sink.told c.args.out.now) (g.K.Sink.told c.tell_missing_text.new.out) c.args.text_name.now c.in-Err.error c.tell_missing_text.result c.in-Err.ensures.stays c.in-Err.ensures.gives c.tell_missing_text.ensures.tells),
  );
  is_form = search rules;
  shelf_faults = search rules;
  sink_faults = search rules;
}
