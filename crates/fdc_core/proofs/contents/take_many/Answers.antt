use Rattle.std.proofs.Common.{refl}
use Rattle.fdc_core.proofs.Taking.{takes_first}
use Rattle.fdc_core.proofs.contents.take_many.Goals as goal

pub returns-clause-takes : goal.returns-clause-takes
returns-clause-takes g c =
    let words = c.first_words-words in
    takes_first c.args.head c.args.steps.now _ c.take_bytes-taken.result c.room_for-room.result words.result.now c.ahead.result.now c.args.counted c.args.stage.now c.take_bytes-taken.new.stage c.args.fifo.now c.take_bytes-taken.new.fifo (g.D.Drive.state c.args.drive.now) (g.D.Drive.state c.let_pass.new.self) refl words.ensures.left words.ensures.first c.take_bytes-taken.ensures.within words.ensures.few c.ahead.ensures.ahead c.room_for-room.ensures.room c.take_bytes-taken.ensures.takes c.let_pass.ensures.passes
