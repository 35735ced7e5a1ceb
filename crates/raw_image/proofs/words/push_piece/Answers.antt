use Rattle.std.proofs.Common.{◌<◌, arith}
use Rattle.raw_image.proofs.Pairs.{piece_after_none, piece_after_some}
use Rattle.raw_image.proofs.words.push_piece.Goals as goal

pub returns-in-None : goal.returns-in-None
returns-in-None c =
    rw c.in-None.is (piece_after_none c.push_pairs.result c.args.words.now.items c.push_pairs.new.words.items c.args.piece.now (λ k. omega (arith, c.type_inv.piece k)) c.push_pairs.ensures.words c.push_pairs.ensures.left)

pub returns-in_ok-push-in-Some-split_first : goal.returns-in_ok-push-in-Some-split_first
returns-in_ok-push-in-Some-split_first c =
    let high_fits : c.in-Some.first < 256 = omega arith in
    let parts = c.in-Some-split_first in
    rw c.in-Some.is (piece_after_some c.push_pairs-in-Some-split_first.result c.args.words.now.items c.push.new.self.items c.push_pairs-in-Some-split_first.new.words.items c.in-Some.first parts.second.now c.from_be_bytes.result c.args.piece.now parts.rest.now high_fits (λ k. omega (arith, c.type_inv.piece k)) parts.ensures.cases.0 c.from_be_bytes.ensures c.in_ok-push-in-Some-split_first.ensures.items c.push_pairs-in-Some-split_first.ensures.words c.push_pairs-in-Some-split_first.ensures.left)
