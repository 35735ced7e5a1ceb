use Rattle.std.proofs.Common.{arith}
use Rattle.sector_map.proofs.Lawful.{law_damaged, law_bad}
use Rattle.sector_map.proofs.laws.windows.damaged_keeps.Goals as goal

pub returns-clause-keeps : goal.returns-clause-keeps
returns-clause-keeps c =
    law_damaged c.args._words.now c.args._place c.args._deleted c.args._content.now c.requires.spaced c.requires.field

pub returns-clause-bad : goal.returns-clause-bad
returns-clause-bad c = λ key here.
    law_bad c.args._words.now c.args._place c.args._deleted c.args._content.now c.requires.spaced c.requires.field (λ j. let fits = c.type_inv._content j in omega (arith, fits)) key here
