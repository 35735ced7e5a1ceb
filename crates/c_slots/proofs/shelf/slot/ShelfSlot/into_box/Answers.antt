-- Written by tools/slots. Change proofs/controller/slot/ControllerSlot/into_box/Answers.antt, of which this is a copy.
use Rattle.std.proofs.Common.{◌≡◌, ◌∙◌, refl, sym, true}
use Rattle.std.specs.Prelude.{◌==◌}
use Rattle.c_slots.proofs.Options.{some_in}
use Rattle.c_slots.proofs.shelf.slot.ShelfSlot.into_box.Goals as goal

pub into_box-requires : goal.into_box-requires
into_box-requires c =
    let full : (c.args.self.tag == 1397507412) ≡ true = rw c.if-tag-eq-FULL.true refl in
    some_in c.args.self.held.shelf (sym c.args.self.same ∙ full)
