use Rattle.fdc_stages.proofs.SearchWord.{on_within, on_over, missed_over}
use Rattle.fdc_stages.proofs.searching.Search.go_on.Goals as goal

pub returns-then-not-index-clause-hears : goal.returns-then-not-index-clause-hears
returns-then-not-index-clause-hears c = λ past word wanted passed.
    on_within c.args.index past word wanted c.args.self.now.separator c.args.self.now.turned c.args.self.now.marked c.if-not-index.true passed

pub returns-then-self-clause-hears : goal.returns-then-self-clause-hears
returns-then-self-clause-hears c = λ past word wanted passed.
    let over = missed_over c.args.index past word wanted c.args.self.now.separator c.args.self.now.turned c.args.self.now.marked c.if-not-index.false c.if-self.true passed in
    c.missed.ensures.is _ wanted over.0 over.1

pub returns-clause-hears : goal.returns-clause-hears
returns-clause-hears c = λ past word wanted passed.
    on_over c.args.index past word wanted c.args.self.now.separator c.args.self.now.turned c.args.self.now.marked c.if-not-index.false c.if-self.false passed
