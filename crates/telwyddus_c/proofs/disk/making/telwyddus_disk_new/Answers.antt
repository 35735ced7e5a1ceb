use Rattle.std.proofs.Common.{sym, ◌∙◌}
use Rattle.telwyddus_c.proofs.Options.{none_in}
use Rattle.telwyddus_c.proofs.disk.making.telwyddus_disk_new.Goals as goal

pub returns : goal.returns
returns c = (none_in c.args.slot.now.held.desk (sym c.is_full.ensures ∙ c.if-is_full.false), (_, c.put.ensures, rw c.in-Ok-new.ensures.ok c.in-Ok.ensures))
