use Rattle.std.proofs.Common.{arith}
use Rattle.sector_map.proofs.Lawful.{law_keeps, law_cuts, law_found, law_content}
use Rattle.sector_map.proofs.laws.windows.cut_keeps.Goals as goal

pub returns-clause-keeps : goal.returns-clause-keeps
returns-clause-keeps c =
    law_keeps c.args._words.now c.args._place c.args._deleted c.args._content.now c.requires.spaced c.requires.field c.args._cut c.requires.most c.requires.allowed

pub returns-clause-found : goal.returns-clause-found
returns-clause-found c = λ all key here.
    law_found c.args._words.now c.args._place c.args._deleted c.args._content.now c.requires.spaced c.requires.field (λ j. let fits = c.type_inv._content j in omega (arith, fits)) key here c.args._cut all

pub returns-clause-content : goal.returns-clause-content
returns-clause-content c = λ all key here.
    law_content c.args._words.now c.args._place c.args._deleted c.args._content.now c.requires.spaced c.requires.field (λ j. let fits = c.type_inv._content j in omega (arith, fits)) key here c.args._cut all

pub returns-clause-cuts : goal.returns-clause-cuts
returns-clause-cuts c = λ k less.
    law_cuts c.args._words.now c.args._place c.args._deleted c.args._content.now c.requires.spaced c.requires.field k c.args._cut less c.requires.most
