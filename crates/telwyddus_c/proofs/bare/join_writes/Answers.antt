use Rattle.telwyddus_c.proofs.Bared.{writes_joined_there}
use Rattle.telwyddus_c.proofs.bare.join_writes.Goals as goal

pub returns : goal.returns
returns c =
    writes_joined_there c.args.bay _ _ _ _ c.args.from.now c.args.to.now c.swap_drive.new.self c.swap_drive-2.new.self
    c.swap_drive.ensures.taken c.drive.ensures c.join_writes.ensures c.swap_drive.ensures.whole c.swap_drive-2.ensures.whole
