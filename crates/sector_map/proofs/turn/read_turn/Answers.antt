use Rattle.std.proofs.Common.{take, arith}
use Rattle.track_model.proofs.Sizes.{content_size_bound}
use Rattle.sector_map.proofs.TurnOver.{turn_over}
use Rattle.sector_map.proofs.turn.read_turn.Goals as goal

pub want-requires : goal.want-requires
want-requires c = omega (arith, content_size_bound c.args.key.n c.requires.coded.1)

pub returns-else-count-words : goal.returns-else-count-words
returns-else-count-words c = λ plain.
    let words = c.args.words.now in
    let passed = c.in-Passed.ensures.over c.new-separator.ensures.follows plain in
    let waits = c.want.ensures.waits (take c.in-Passed.count words) passed.0 (passed.1.inside (omega (arith, c.in-Passed.ensures.inside, c.if-count-words.false))) in
    turn_over words c.args.key passed.0 c.read_behind.new.content c.read_behind.result passed.1.first
    (c.read_behind.ensures passed.0 c.args.key.n c.requires.coded c.requires.sized waits)
