use Rattle.std.proofs.Common.{subst, [], arith}
use Rattle.raw_image.proofs.Common.{err_from_is_err_and, Progress, IsFed}
use Rattle.raw_image.proofs.Feeding.{ends_failed}
use Rattle.raw_image.proofs.Images.{is_found, is_only}
use Rattle.raw_image.proofs.reader.read_image.Goals as goal

pub returns-in_err-feed-clause-exact : goal.returns-in_err-feed-clause-exact
returns-in_err-feed-clause-exact c =
    let p = err_from_is_err_and c.from_residual.result c.from_residual.ensures.1 in
    let bytes = c.args.bytes.now in
    let e = c.in_err-feed.field-0.0 in
    let fed = c.feed.ensures.fed [] c.new-reader.ensures.fed in
    rw (p.1, p.2) (ends_failed bytes e (subst (λ (x : Progress). IsFed bytes x) c.in_err-feed.ensures.err fed))

pub returns-in_err-feed-clause-only : goal.returns-in_err-feed-clause-only
returns-in_err-feed-clause-only c = λ disk spells. is_only c.args.bytes.now c.from_residual.result disk (returns-in_err-feed-clause-exact c) spells

pub returns-clause-exact : goal.returns-clause-exact
returns-clause-exact c = c.finish.ensures.read c.args.bytes.now (c.feed.ensures.fed [] c.new-reader.ensures.fed)

pub returns-clause-found : goal.returns-clause-found
returns-clause-found c = is_found c.args.bytes.now c.finish.result (λ k. omega (arith, c.type_inv.bytes k)) (returns-clause-exact c)

pub returns-clause-only : goal.returns-clause-only
returns-clause-only c = λ disk spells. is_only c.args.bytes.now c.finish.result disk (returns-clause-exact c) spells
