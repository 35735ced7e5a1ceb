use Rattle.std.proofs.Common.{sym}
use Rattle.telwyddus_c.proofs.controller.bays.telwyddus_controller_insert.Goals as goal

pub returns : goal.returns
returns c = rw (sym c.in-Some.ensures.taken) (_, c.put.ensures, rw (sym c.deref_mut.ensures.value) (c.insert_telling-code.ensures.inserts, c.insert_telling-code.ensures.told))
