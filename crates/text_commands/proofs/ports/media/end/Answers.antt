use Rattle.std.proofs.Common.{rules}
use Rattle.text_commands.proofs.Common.{bench_of}
use Rattle.text_commands.proofs.ExchangedPorts.{second_ends}
use Rattle.text_commands.proofs.ports.media.end.Goals as goal

pub returns : goal.returns
returns g c = record {
  does = second_ends c.end_bay-2.result (bench_of g.D.Drive.state g.S.Shelf.told c.args.machine.now c.args.names.now c.args.shelf.now) (bench_of g.D.Drive.state g.S.Shelf.told c.end_bay.new.machine c.end_bay.new.names c.end_bay.new.shelf) (bench_of g.D.Drive.state g.S.Shelf.told c.end_bay-2.new.machine c.end_bay-2.new.names c.end_bay-2.new.shelf) c.in_ok-end_bay.ensures.does c.end_bay-2.ensures.does;
  named = search rules;
  shelf_faults = search rules;
}
