use Rattle.std.proofs.Common.{arith, sym}
use Rattle.std.proofs.lemmas.Result.{err_from_is_err_and}
use Rattle.floppy_session.proofs.Endings.{stops_loading}
use Rattle.floppy_session.proofs.session.Session.insert.Goals as goal

pub returns-in_err-medium-clause-stop : goal.returns-in_err-medium-clause-stop
returns-in_err-medium-clause-stop g c =
    let p = err_from_is_err_and c.from_residual.result c.from_residual.ensures.1 in
    rw (p.1, p.2, ← c.self.view_is) (stops_loading _ (g.S.Shelf.told c.args.shelf.now) (g.S.Shelf.told c.load_medium.new.shelf) c.args.bay
    c.args.name.now c.in_err-medium.field-0.0 (omega arith) (sym c.if-is_loaded.ensures) c.in_err-medium.ensures.cause c.load_medium.ensures.stays)
