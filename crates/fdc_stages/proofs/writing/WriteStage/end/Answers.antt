use Rattle.fdc_stages.proofs.Common.{wrote, rest_behind}
use Rattle.fdc_stages.proofs.Windowed.{none_behind, whole_next, begun_next, cut_open, goes_next, lead_next}
use Rattle.fdc_stages.proofs.writing.WriteStage.end.Goals as goal

pub returns-then-last-clause-goes_on : goal.returns-then-last-clause-goes_on
returns-then-last-clause-goes_on c = λ past key deleted handed word opened counted was.
    let rest = rest_behind c.args.last c.args.self.now in
    c.whole_ending.ensures.is (wrote c.args.index word past) key deleted handed counted
    (whole_next c.args.index word past key deleted handed rest (none_behind c.args.last c.args.self.now c.if-last.true) was)
    (begun_next c.args.index word past key deleted handed rest was)

pub returns-then-index-clause-goes_on : goal.returns-then-index-clause-goes_on
returns-then-index-clause-goes_on c = λ past key deleted handed word opened counted was.
    cut_open c.args.index c.args.last word past key deleted handed c.args.self.now c.if-index.true c.if-last.false opened was

pub returns-clause-goes_on : goal.returns-clause-goes_on
returns-clause-goes_on c = λ past key deleted handed word opened counted was.
    goes_next c.args.index c.args.last word past key deleted handed c.args.self.now c.if-index.false c.if-last.false opened was

pub returns-clause-lead : goal.returns-clause-lead
returns-clause-lead c = λ before opened leads.
    lead_next c.args.last c.args.self.now before c.if-last.false opened leads
