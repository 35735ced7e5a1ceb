use Rattle.fdc_stages.proofs.Windowed.{whole_next, begun_next, cut_next}
use Rattle.fdc_stages.proofs.Common.{wrote}
use Rattle.fdc_stages.proofs.writing.WriteWord.after.Goals as goal

pub returns-in-None-clause-goes_on : goal.returns-in-None-clause-goes_on
returns-in-None-clause-goes_on c = λ past key deleted handed counted was.
    c.whole_ending.ensures.is (wrote c.args.index c.args.self.word past) key deleted handed counted
    (whole_next c.args.index c.args.self.word past key deleted handed c.args.self.rest c.in-None.is was)
    (begun_next c.args.index c.args.self.word past key deleted handed c.args.self.rest was)

pub returns-then-index-clause-goes_on : goal.returns-then-index-clause-goes_on
returns-then-index-clause-goes_on c = λ past key deleted handed counted was.
    cut_next c.args.index c.args.self.word past key deleted handed c.args.self.rest c.in-Some.window c.if-index.true c.in-Some.is was
