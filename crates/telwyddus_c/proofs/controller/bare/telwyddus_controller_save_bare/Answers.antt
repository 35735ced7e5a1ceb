use Rattle.std.proofs.Common.{sym}
use Rattle.telwyddus_c.proofs.controller.bare.telwyddus_controller_save_bare.Goals as goal

pub returns : goal.returns
returns c = rw (sym c.in-Some.ensures.taken) (_, c.put.ensures, rw (sym c.deref_mut.ensures.value) (c.save_bare-code.ensures.same, c.save_bare-code.ensures.writes))
