use Rattle.std.proofs.Common.{arith}
use Rattle.fdc_core.proofs.Longest.{room_most}
use Rattle.fdc_core.proofs.contents.room_for.Goals as goal

pub returns-clause-longest : goal.returns-clause-longest
returns-clause-longest c n few room =
    let most = room_most c.args.counted c.quiet_room.result n c.args.fifo.now c.if-counted.false (c.quiet_room.ensures.rises c.requires.low) room in
    omega (arith, c.min.ensures, few, most)
