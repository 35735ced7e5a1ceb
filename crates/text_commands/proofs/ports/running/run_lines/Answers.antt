use Rattle.std.proofs.Common.{rules, arith, ◌<◌, length}
use Rattle.text_commands.proofs.Common.{world_of}
use Rattle.text_commands.proofs.PortRounds.{has-run-next, broken}
use Rattle.text_commands.proofs.ports.running.run_lines.Goals as goal

pub returns-in-Err : goal.returns-in-Err
returns-in-Err g c = record {
  goes =
      let within : c.loop-line.line-index < length c.args.lines.now = omega arith in
      broken (world_of g.D.Drive.state g.S.Shelf.told g.K.Sink.told c.args.machine.now c.args.names.now c.args.shelf.now c.args.out.now) (world_of g.D.Drive.state g.S.Shelf.told g.K.Sink.told c.loop-line.machine c.loop-line.names c.loop-line.shelf c.loop-line.out) (world_of g.D.Drive.state g.S.Shelf.told g.K.Sink.told c.run_one.new.machine c.run_one.new.names c.run_one.new.shelf c.run_one.new.out) c.args.lines.now c.loop-line.line-index c.line-item.result c.loop-line.refused c.in-Err.ended c.loop-line.invariant.run within c.line-item.is c.in-Err.ensures.goes;
  named = search rules;
  is_form = search rules;
  shelf_faults = search rules;
  sink_faults = search rules;
}

pub loop-line-preserved : goal.loop-line-preserved
loop-line-preserved g c =
    let within : c.loop-line.line-index < length c.args.lines.now = omega arith in
    record {
      run = has-run-next (world_of g.D.Drive.state g.S.Shelf.told g.K.Sink.told c.args.machine.now c.args.names.now c.args.shelf.now c.args.out.now) (world_of g.D.Drive.state g.S.Shelf.told g.K.Sink.told c.loop-line.machine c.loop-line.names c.loop-line.shelf c.loop-line.out) (world_of g.D.Drive.state g.S.Shelf.told g.K.Sink.told c.run_one.new.machine c.run_one.new.names c.run_one.new.shelf c.run_one.new.out) c.args.lines.now c.loop-line.line-index c.line-item.result c.loop-line.refused c.in-Ok.refusal c.either-refused.result c.loop-line.invariant.run c.in-Ok.ensures.goes within c.line-item.is c.either-refused.ensures;
      named = c.run_one.ensures.named;
      shelf_counts = search rules;
      sink_counts = search rules;
    }
