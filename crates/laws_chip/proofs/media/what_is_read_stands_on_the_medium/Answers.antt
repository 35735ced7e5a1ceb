use Rattle.std.proofs.Common.{◌++◌, [], ◌∷◌}
use Rattle.laws_chip.proofs.Common.{Steps}
use Rattle.laws_chip.proofs.Medium.{read_from}
use Rattle.laws_chip.proofs.media.what_is_read_stands_on_the_medium.Goals as goal

pub returns : goal.returns
returns c = λ place wanted skip first calls begun last new served step results reads is told moves stays.
    read_from place first wanted skip reads (moves.all ++ Steps ∷ []) moves.moved.history begun.front step.between moves.within results is.begins.serves stays moves.moved.gather moves.moved.moved moves.moved.of_sector told
