use Rattle.laws_chip.proofs.Called.{calls_serve}
use Rattle.laws_chip.proofs.several.bytes_pass_in_order.Goals as goal

pub returns : goal.returns
returns c = calls_serve
