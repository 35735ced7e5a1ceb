use Rattle.std.proofs.Common.{refl, sym}
use Rattle.telwyddus_c.proofs.controller.bays.telwyddus_controller_is_written.Goals as goal

pub returns : goal.returns
returns c = rw (sym c.in-Some.ensures.taken) (_, c.put.ensures, rw (sym c.deref.ensures) (refl, c.show_written-code.ensures))
