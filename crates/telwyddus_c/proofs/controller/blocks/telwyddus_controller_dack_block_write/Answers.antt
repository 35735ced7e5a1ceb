use Rattle.std.proofs.Common.{refl, sym}
use Rattle.telwyddus_c.proofs.controller.blocks.telwyddus_controller_dack_block_write.Goals as goal

pub returns : goal.returns
returns c = rw (sym c.in-Some.ensures.taken) (_, c.put.ensures, rw (sym c.deref_mut.ensures.value) (refl, c.give_block.ensures.gives, c.give_block.ensures.drives, c.give_block.ensures.told))
