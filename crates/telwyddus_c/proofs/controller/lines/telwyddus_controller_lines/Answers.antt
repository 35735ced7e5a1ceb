use Rattle.std.proofs.Common.{refl, sym}
use Rattle.telwyddus_c.proofs.controller.lines.telwyddus_controller_lines.Goals as goal

pub returns : goal.returns
returns c = rw (sym c.in-Some.ensures.taken) (_, c.put.ensures, rw (sym c.deref.ensures) (refl, refl, c.lines_of.ensures))
