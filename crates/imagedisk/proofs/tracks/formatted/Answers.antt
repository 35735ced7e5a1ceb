use Rattle.std.proofs.Common.{length, ap, arith}
use Rattle.imagedisk.proofs.Common.{standard_fill, length-lay}
use Rattle.imagedisk.proofs.tracks.formatted.Goals as goal

pub returns-in-Ok-clause-length : goal.returns-in-Ok-clause-length
returns-in-Ok-clause-length c =
    omega (arith, ap length c.in-Ok.ensures.laid, length-lay c.deref.result.now c.args.track.now.n c.args.gap3 standard_fill c.from.result, c.from.ensures, c.words.ensures)
