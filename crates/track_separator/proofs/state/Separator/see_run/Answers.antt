use Rattle.track_separator.proofs.Waited.{marked_run, not_marked}
use Rattle.track_separator.proofs.state.Separator.see_run.Goals as goal

pub returns-in-Some-clause-marked : goal.returns-in-Some-clause-marked
returns-in-Some-clause-marked c = λ fed p next.
    marked_run fed c.args.self.now.cells p c.args.since next c.in-Some.back c.in-Some.ensures

pub returns-in-None-clause-marked : goal.returns-in-None-clause-marked
returns-in-None-clause-marked c = λ fed p next.
    not_marked fed c.args.self.now.cells p c.args.since next c.in-None.ensures
