use Rattle.remaster.proofs.OneList.{one_looked, one_sectors, not_both}
use Rattle.remaster.proofs.laws.sectors_are_one.Goals as goal

pub returns-clause-looked : goal.returns-clause-looked
returns-clause-looked c = one_looked c.args._words.now

pub returns-clause-sectors : goal.returns-clause-sectors
returns-clause-sectors c = one_sectors c.args._words.now

pub returns-clause-fit : goal.returns-clause-fit
returns-clause-fit c = λ rate b g. not_both rate b g c.args._words.now
