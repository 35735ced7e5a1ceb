use Rattle.std.proofs.Common.{refl, sym}
use Rattle.telwyddus_c.proofs.Lengths.States.{tells_at_most}
use Rattle.telwyddus_c.proofs.controller.saving.telwyddus_controller_save.Goals as goal

pub returns-clause-serves : goal.returns-clause-serves
returns-clause-serves c = rw (sym c.in-Some.ensures.taken) (_, c.put.ensures, rw (sym c.deref.ensures) (refl, c.save-code.ensures))

pub returns-clause-most : goal.returns-clause-most
returns-clause-most c =
    rw (sym c.in-Some.ensures.taken, sym c.deref.ensures) (tells_at_most _ _ _ _ _ _ c.save-code.ensures)
