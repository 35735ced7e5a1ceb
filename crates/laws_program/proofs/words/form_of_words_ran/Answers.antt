use Rattle.laws_program.proofs.FormWords.{form_ran}
use Rattle.laws_program.proofs.words.form_of_words_ran.Goals as goal

pub returns : goal.returns
returns c = form_ran
