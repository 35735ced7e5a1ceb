use Rattle.laws_chip.proofs.SeeksLast.{pace_begins, used_stands, words_most}
use Rattle.laws_chip.proofs.waiting.heads_come_to_stand.Goals as goal

pub returns-clause-stand : goal.returns-clause-stand
returns-clause-stand c = used_stands

pub returns-clause-begins : goal.returns-clause-begins
returns-clause-begins c = pace_begins

pub returns-clause-words : goal.returns-clause-words
returns-clause-words c = words_most
