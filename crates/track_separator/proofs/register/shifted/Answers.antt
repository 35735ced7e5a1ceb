use Rattle.track_separator.proofs.Bits.{shifted_is}
use Rattle.track_separator.proofs.register.shifted.Goals as goal

pub returns : goal.returns
returns c = rw c.from.ensures (shifted_is c.args.cells c.args.word c.ranges.word.fits)
