use Rattle.laws_chip.proofs.Called as lemmas
use Rattle.laws_chip.proofs.several.results_say.Goals as goal

pub returns : goal.returns
returns c = lemmas.results_say
