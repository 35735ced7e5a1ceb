use Rattle.std.proofs.Common.{sym}
use Rattle.telwyddus_c.proofs.shelf.telwyddus_shelf_put.Goals as goal

pub returns : goal.returns
returns c = rw (sym c.in-Some.ensures.taken) (_, c.put.ensures, rw (sym c.deref_mut.ensures.value) c.put-code.ensures)
