use Rattle.std.proofs.Common.{arith}
use Rattle.imagedisk.proofs.OnMedium.{some_cylinders}
use Rattle.imagedisk.proofs.making.cylinder_count.Goals as goal

pub loop-track-init : goal.loop-track-init
loop-track-init c = let least = some_cylinders c.args.tracks.now in record { goes_on = omega (arith, least); least = omega arith; most = omega arith }
