use Rattle.std.proofs.Common.{[]}
use Rattle.raw_image.proofs.Feeding.{pieces_after}
use Rattle.raw_image.proofs.laws.any_pieces.Goals as goal

pub returns : goal.returns
returns c = λ pieces new last fed all. pieces_after pieces [] new last fed all
