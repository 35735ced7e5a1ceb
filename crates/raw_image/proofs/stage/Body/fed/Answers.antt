use Rattle.std.proofs.Common.{length, ap, arith, length-append}
use Rattle.raw_image.proofs.Common.{body_bytes}
use Rattle.raw_image.proofs.Bodies.{length_body}
use Rattle.raw_image.proofs.stage.Body.fed.Goals as goal

pub invariant_of-result : goal.invariant_of-result
invariant_of-result c =
    let b = c.args.self in
    record { within = omega (arith, ap length c.in_ok-high.ensures, length_body c.push_piece.new.words.items c.in_ok-high.high, length_body b.words.items b.high, length-append (body_bytes b) c.args.piece.now) }
