use Rattle.std.proofs.Common.{Some, sym, subst}
use Rattle.fdc_stages.proofs.Common.{PassesBy, Search}
use Rattle.fdc_stages.proofs.reading.ReadStage.pass_by.Goals as goal

pub returns-in-Search-clause-passed : goal.returns-in-Search-clause-passed
returns-in-Search-clause-passed c = λ took.
    let passed = c.pass_by.ensures.passed took in (
      passed.0,
      subst (λ stage. PassesBy c.args.word stage (Search c.pass_by.new.self)) (sym c.in-Search.is) (λ past key told (searching, none). (passed.1 past (Some key) searching, none), tt),
    )
