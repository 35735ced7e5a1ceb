use Rattle.std.proofs.Common.{refl, sym}
use Rattle.telwyddus_c.proofs.controller.blocks.telwyddus_controller_dack_block_read.Goals as goal

pub returns : goal.returns
returns c = rw (sym c.in-Some.ensures.taken) (_, c.put.ensures, rw (sym c.deref_mut.ensures.value) (refl, c.take_block.ensures.takes, c.take_block.ensures.drives, c.take_block.ensures.told))
