use Rattle.floppy_session.proofs.Endings.{second_stops}
use Rattle.floppy_session.proofs.session.Session.end.Goals as goal

pub returns-clause-stop : goal.returns-clause-stop
returns-clause-stop g c =
    second_stops c.end_bay-2.result _ _ _ (g.S.Shelf.told c.args.shelf.now) (g.S.Shelf.told c.end_bay.new.shelf)
    (g.S.Shelf.told c.end_bay-2.new.shelf) c.in_ok-end_bay.ensures.ok c.end_bay-2.ensures.cause c.end_bay-2.ensures.dropped c.end_bay-2.ensures.err
