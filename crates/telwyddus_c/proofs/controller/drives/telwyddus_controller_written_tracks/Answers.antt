use Rattle.std.proofs.Common.{sym}
use Rattle.telwyddus_c.proofs.controller.drives.telwyddus_controller_written_tracks.Goals as goal

pub returns : goal.returns
returns c = rw (sym c.in-Some.ensures.taken) (_, c.put.ensures, rw (sym c.deref_mut.ensures.value) c.tell_tracks-code.ensures)
