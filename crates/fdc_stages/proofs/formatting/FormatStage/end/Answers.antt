use Rattle.std.proofs.Common.{subst, sym}
use Rattle.fdc_stages.proofs.Common.{wrote, HasNext}
use Rattle.fdc_stages.specs.declared.formatting.FormatNext.TheVariants.{Ended}
use Rattle.fdc_stages.proofs.formatting.FormatStage.end.Goals as goal

pub returns-clause-goes_on : goal.returns-clause-goes_on
returns-clause-goes_on c = λ past numbers handed word opened was.
    let end = c.end_at_index.result in
    subst (λ index. HasNext (wrote index word past) numbers handed (Ended end.ending end.key)) (sym c.if-not-index.false)
    (c.end_at_index.ensures.goes_on past numbers handed word was)
