use Rattle.std.proofs.Common.{◌≤◌, arith}
use Rattle.fdc_stages.proofs.Gaps.{gap_over, gap_on}
use Rattle.fdc_stages.proofs.writing.WriteStage.wait_on.Goals as goal

pub returns-then-index-clause-hears : goal.returns-then-index-clause-hears
returns-then-index-clause-hears c = λ past word key deleted handed was.
    let some : 1 ≤ c.args.left = (let test = c.if-left-eq0.false in omega arith) in
    gap_over c.args.left c.args.index word past key deleted handed some c.if-index.true was

pub returns-clause-hears : goal.returns-clause-hears
returns-clause-hears c = λ past word key deleted handed was.
    let some : 1 ≤ c.args.left = (let test = c.if-left-eq0.false in omega arith) in
    gap_on c.args.left c.args.index word past key deleted handed some c.if-index.false was
