use Rattle.std.proofs.Common.{refl, subst}
use Rattle.fdc_core.proofs.Common.{AreAhead, head_of}
use Rattle.fdc_core.proofs.Coursing.{passes_first}
use Rattle.fdc_core.proofs.courses.pass_many.Goals as goal

pub returns-clause-passes : goal.returns-clause-passes
returns-clause-passes g c =
    let before = g.D.Drive.state c.args.drive.now in
    let count = c.pass_many-heard.result in
    let ahead = c.ahead.result.now in
    passes_first (head_of c.args.head_drive) c.args.steps.now _ count c.first_words-words.result.now ahead c.args.search.now c.pass_many-heard.new.self before (g.D.Drive.state c.let_pass.new.self) refl c.first_words-words.ensures.left c.first_words-words.ensures.first c.pass_many-heard.ensures.within
    (subst (λ head. AreAhead head ahead before) c.head_of.ensures c.ahead.ensures.ahead) c.pass_many-heard.ensures.passed c.let_pass.ensures.passes
