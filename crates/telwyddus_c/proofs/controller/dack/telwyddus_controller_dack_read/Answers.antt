use Rattle.std.proofs.Common.{sym}
use Rattle.telwyddus_c.proofs.controller.dack.telwyddus_controller_dack_read.Goals as goal

pub returns : goal.returns
returns c = rw (sym c.in-Some.ensures.taken) (_, c.put.ensures, rw (sym c.deref_mut.ensures.value) (c.take_telling-code.ensures.takes, c.take_telling-code.ensures.drives, c.take_telling-code.ensures.told))
