use Rattle.std.proofs.Common.{subst, arith}
use Rattle.raw_image.proofs.Common.{err_from_is_err_and, ReaderStage, header_view, IsFed, progress_of, body_bytes}
use Rattle.raw_image.proofs.Bodies.{length_body}
use Rattle.raw_image.proofs.Feeding.{going_on, too_long_or_no_memory}
use Rattle.raw_image.proofs.stage.ReaderStage.fed.Goals as goal

pub returns-in_err-fed-in-Going-clause-fed : goal.returns-in_err-fed-in-Going-clause-fed
returns-in_err-fed-in-Going-clause-fed c = λ bytes fed.
    let b = c.in-Going.body in
    let p = err_from_is_err_and c.from_residual.result c.from_residual.ensures.1 in
    rw (p.1, p.2) (too_long_or_no_memory bytes (body_bytes b) c.args.piece.now (header_view b.shape) c.in_err-fed-in-Going.field-0.0 c.in_err-fed-in-Going.ensures.err (subst (λ (s : ReaderStage). IsFed bytes (progress_of s)) c.in-Going.is fed))

pub returns-in_ok-fed-in-Going-clause-fed : goal.returns-in_ok-fed-in-Going-clause-fed
returns-in_ok-fed-in-Going-clause-fed c = λ bytes fed.
    let b = c.in-Going.body in
    let n = c.in_ok-fed-in-Going.field-0 in
    let e = c.in_ok-fed-in-Going.ensures in
    going_on bytes (body_bytes b) c.args.piece.now (body_bytes n) (header_view b.shape) (header_view n.shape)
    (subst (λ (s : ReaderStage). IsFed bytes (progress_of s)) c.in-Going.is fed) e.shape e.bytes (omega (arith, length_body n.words.items n.high, n.within))
