use Rattle.laws_chip.proofs.Edging.{channel_leaves, count_leaves}
use Rattle.laws_chip.proofs.edges.the_channel_leaves_int.Goals as goal

pub returns-clause-bytes : goal.returns-clause-bytes
returns-clause-bytes c = channel_leaves

pub returns-clause-count : goal.returns-clause-count
returns-clause-count c = count_leaves
