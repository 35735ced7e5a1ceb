use Rattle.std.proofs.Common.{rules, arith}
use Rattle.std.proofs.lemmas.Result.{err_from_is_err_and}
use Rattle.text_commands.proofs.Common.{board}
use Rattle.text_commands.proofs.ExchangedPorts.{stops_loading}
use Rattle.text_commands.proofs.ports.media.insert.Goals as goal

pub returns-in_err-medium : goal.returns-in_err-medium
returns-in_err-medium g c = record {
  does =
      let p = err_from_is_err_and c.from_residual.result c.from_residual.ensures.1 in
      rw (p.1, p.2) (stops_loading (board g.D.Drive.state c.args.machine.now) c.args.names.now (g.S.Shelf.told c.args.shelf.now) (g.S.Shelf.told c.load_medium.new.shelf) c.args.bay c.args.name.now c.in_err-medium.field-0.0 (omega arith) c.if-is_loaded.ensures c.in_err-medium.ensures.cause c.load_medium.ensures.stays);
  named = search rules;
  shelf_faults = search rules;
}
