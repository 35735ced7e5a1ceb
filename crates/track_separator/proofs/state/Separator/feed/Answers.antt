use Rattle.track_separator.proofs.Taken.{inside_feeds}
use Rattle.track_separator.proofs.state.Separator.feed.Goals as goal

pub returns-then-is_usual : goal.returns-then-is_usual
returns-then-is_usual c =
    let took = c.take.ensures in
    inside_feeds c.args.index c.args.word c.args.self.now c.take.new.self c.take.result c.if-not-index.true took.hunts took.waits took.reads took.turn_ended
