use Rattle.std.proofs.Common.{sym, subst}
use Rattle.track_separator.proofs.Common.{BeginsIn}
use Rattle.track_separator.proofs.HuntedWord.{hunted_on}
use Rattle.track_separator.proofs.Told.{fed_hunt}
use Rattle.track_separator.proofs.state.Separator.pass_by.Goals as goal

pub returns-else-not-ends_no_run-clause-passed : goal.returns-else-not-ends_no_run-clause-passed
returns-else-not-ends_no_run-clause-passed c = λ took.
    hunted_on c.args.self.now.cells c.args.self.now.back c.args.word c.next_cells-cells.result c.args.self.now.stage c.in-Hunting.is c.next_cells-cells.ensures (c.ends_no_run.ensures c.if-not-ends_no_run.false)

pub returns-else-not-ends_no_run-clause-any : goal.returns-else-not-ends_no_run-clause-any
returns-else-not-ends_no_run-clause-any c = λ fed took h.
    fed_hunt fed c.args.self.now.cells c.args.self.now.back c.args.self.now.stage c.args.word _ _ _ _ (subst BeginsIn (sym c.in-Hunting.is) tt) (returns-else-not-ends_no_run-clause-passed c took) h
