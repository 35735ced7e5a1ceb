use Rattle.std.proofs.Common.{sym, subst, ◌∙◌}
use Rattle.fdc_stages.proofs.Common.{SWaits, IsMet}
use Rattle.fdc_stages.proofs.ReadWord.{met_over, met_within, same_separator}
use Rattle.fdc_stages.proofs.reading.ReadStage.meet.Goals as goal

pub returns-then-index-clause-hears : goal.returns-then-index-clause-hears
returns-then-index-clause-hears c = λ past search is met.
    met_over c.args.index past c.args.key search.separator c.if-index.true met

pub returns-else-index-clause-hears : goal.returns-else-index-clause-hears
returns-else-index-clause-hears c = λ past search is met.
    let found = same_separator search c.in-Search.search (sym is ∙ c.in-Search.is) in
    met_within c.args.index past c.args.key c.in-Search.search.separator c.want.new.self c.if-index.false
    (λ p at. subst (λ size. SWaits c.want.new.self past.seen p size) c.sector_size.ensures.size (c.want.ensures.waits past.seen p at.asks))
    (subst (IsMet c.args.index past c.args.key) found met)
