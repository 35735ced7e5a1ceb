use Rattle.std.proofs.Common.{◌∙◌, ap}
use Rattle.telwyddus_c.proofs.Common.{with_writes_at}
use Rattle.telwyddus_c.proofs.bare.join_all_writes.Goals as goal

pub returns : goal.returns
returns c = c.join_writes-2.ensures ∙ ap (with_writes_at 1 c.args.from.now) c.join_writes.ensures
