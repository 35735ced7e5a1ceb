use Rattle.std.proofs.Common.{sym}
use Rattle.telwyddus_c.proofs.disk.sectors.telwyddus_disk_read.Goals as goal

pub returns : goal.returns
returns c = rw (sym c.in-Some.ensures.taken) (_, c.put.ensures, rw (sym c.deref_mut.ensures.value) c.read_in-code.ensures)
