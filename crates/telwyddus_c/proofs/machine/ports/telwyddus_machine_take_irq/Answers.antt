use Rattle.std.proofs.Common.{refl, sym, ◌∙◌}
use Rattle.telwyddus_c.proofs.machine.ports.telwyddus_machine_take_irq.Goals as goal

pub returns : goal.returns
returns c = rw (sym c.in-Some.ensures.taken) (_, c.put.ensures, rw (sym c.deref_mut.ensures.value) (refl, c.byte_of.ensures.one ∙ c.take_irq.ensures.was, c.byte_of.ensures.bit, c.take_irq.ensures.after))
