use Rattle.std.proofs.Common.{sym}
use Rattle.telwyddus_c.proofs.controller.bare.telwyddus_controller_restore_bare.Goals as goal

pub returns : goal.returns
returns c = rw (sym c.in-Some.ensures.taken) (_, c.put.ensures, rw (sym c.deref_mut.ensures.value) (c.restore_telling-code.ensures.restores, c.restore_telling-code.ensures.told))
