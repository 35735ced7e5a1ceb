use Rattle.std.proofs.Common.{rules, ◌≡◌, ◌∙◌, sym, Some, None}
use Rattle.floppy_session.proofs.Common.{bay_of, State, ChangesMedium, state_of}
use Rattle.floppy_session.proofs.Endings.{stores_out}
use Rattle.floppy_session.proofs.session.Session.take_out.Goals as goal

pub returns-clause-ok : goal.returns-clause-ok
returns-clause-ok g c =
    let old : State = state_of (g.D.Station.shown c.self.inside.station) c.self.inside.labels in
    let new : State = state_of (g.D.Station.shown c.eject.new.self) c.take.new.self in
    let disk : (bay_of old.station c.args.bay).medium ≡ Some c.unwrap-medium.result = sym c.eject.ensures.step.medium ∙ c.unwrap-medium.ensures in
    let changes : ChangesMedium c.args.bay None None old new = search rules in
    rw (← c.self.view_is) (stores_out c.store_medium.result old new (g.S.Shelf.told c.args.shelf.now) (g.S.Shelf.told c.store_medium.new.shelf)
    c.args.bay c.unwrap-medium.result c.unwrap-name.result disk (sym c.take.ensures.name ∙ c.unwrap-name.ensures) changes c.store_medium.ensures.ok)
