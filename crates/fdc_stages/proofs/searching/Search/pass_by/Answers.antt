use Rattle.fdc_stages.proofs.SearchWord.{passes_by}
use Rattle.fdc_stages.proofs.searching.Search.pass_by.Goals as goal

pub returns-clause-passed : goal.returns-clause-passed
returns-clause-passed c = λ took. (
  c.if-index.false,
  λ past wanted searching. passes_by past c.args.word wanted c.args.self.now.separator c.pass_by.new.self c.args.self.now.turned c.args.self.now.marked (c.pass_by.ensures.passed took) searching,
)
