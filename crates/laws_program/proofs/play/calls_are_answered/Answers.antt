use Rattle.laws_program.proofs.Archives.{int13_answers}
use Rattle.laws_program.proofs.play.calls_are_answered.Goals as goal

pub returns : goal.returns
returns c = int13_answers c.args._file.now
