use Rattle.laws_chip.proofs.Edging.{read_raises}
use Rattle.laws_chip.proofs.edges.a_read_raises_int_with_an_answer.Goals as goal

pub returns : goal.returns
returns c = read_raises
