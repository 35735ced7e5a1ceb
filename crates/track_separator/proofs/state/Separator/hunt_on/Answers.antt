use Rattle.track_separator.proofs.HuntedWord.{hunted_on}
use Rattle.track_separator.proofs.state.Separator.hunt_on.Goals as goal

pub returns-then-ends_no_run : goal.returns-then-ends_no_run
returns-then-ends_no_run c =
    hunted_on c.args.self.now.cells c.args.self.now.back c.args.word c.next_cells-cells.result c.args.self.now.stage c.requires c.next_cells-cells.ensures (c.ends_no_run.ensures c.if-ends_no_run.true)
