use Rattle.std.proofs.Common.{◌++◌, [], ◌∷◌}
use Rattle.laws_chip.proofs.Common.{Steps}
use Rattle.laws_chip.proofs.WrittenCalls.{written_to}
use Rattle.laws_chip.proofs.media.what_is_written_stands_on_the_medium.Goals as goal

pub returns : goal.returns
returns c = λ place deleted first calls begun last new served step results writes is told moves keeps medium.
    written_to place deleted first writes (moves.all ++ Steps ∷ []) is.begins.start begun.front step.between moves.within results is.begins.begins is.begins.serves keeps medium told moves.moved.history moves.moved.gather
