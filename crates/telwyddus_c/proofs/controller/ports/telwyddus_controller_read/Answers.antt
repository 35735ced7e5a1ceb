use Rattle.std.proofs.Common.{refl, sym}
use Rattle.telwyddus_c.proofs.controller.ports.telwyddus_controller_read.Goals as goal

pub returns : goal.returns
returns c = rw (sym c.in-Some.ensures.taken) (_, c.put.ensures, rw (sym c.deref_mut.ensures.value) (refl, c.read_port.ensures.reads, c.read_port.ensures.drives, c.read_port.ensures.told))
