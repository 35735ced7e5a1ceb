use Rattle.std.proofs.Common.{refl}
use Rattle.fdc_stages.proofs.formatting.FormatWord.after.Goals as goal

pub returns-in-None-clause-goes_on : goal.returns-in-None-clause-goes_on
returns-in-None-clause-goes_on c = λ past numbers handed was.
    let laid = c.args.self in
    c.in-None.ensures.goes_on past numbers handed laid.word refl was

pub returns-in-Some-clause-goes_on : goal.returns-in-Some-clause-goes_on
returns-in-Some-clause-goes_on c = λ past numbers handed was.
    let laid = c.args.self in
    c.in-Some.ensures.goes_on past numbers handed laid.word refl was
