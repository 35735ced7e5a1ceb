use Rattle.std.proofs.Common.{refl, sym}
use Rattle.telwyddus_c.proofs.controller.steps.telwyddus_controller_step.Goals as goal

pub returns : goal.returns
returns c = rw (sym c.in-Some.ensures.taken) (_, c.put.ensures, rw (sym c.deref_mut.ensures.value) (refl, c.step.ensures, rw (sym c.deref.ensures) c.lines_of.ensures))
