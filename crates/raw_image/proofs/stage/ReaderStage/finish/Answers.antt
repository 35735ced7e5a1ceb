use Rattle.std.proofs.Common.{◌≡◌, ◌∙◌, ap, subst, ℕ, Err, arith, length}
use Rattle.raw_image.proofs.Common.{TooShort, ReaderStage, header_view, IsFed, progress_of, body_bytes}
use Rattle.raw_image.proofs.Feeding.{ends_begun, ends_going, ends_failed}
use Rattle.raw_image.proofs.stage.ReaderStage.finish.Goals as goal

pub returns-in-Begun-clause-read : goal.returns-in-Begun-clause-read
returns-in-Begun-clause-read c = λ bytes fed.
    let front = c.in-Begun.front.bytes in
    let len : length front.items ≡ c.len.result = omega (arith, c.len.ensures, front.ok.0) in
    ends_begun bytes front.items (subst (λ (s : ReaderStage). IsFed bytes (progress_of s)) c.in-Begun.is fed) ∙ ap (λ (n : ℕ). Err (TooShort 14 n)) len

pub returns-in-Going-clause-read : goal.returns-in-Going-clause-read
returns-in-Going-clause-read c = λ bytes fed.
    ends_going bytes (body_bytes c.in-Going.body) (header_view c.in-Going.body.shape) c.finish.result (subst (λ (s : ReaderStage). IsFed bytes (progress_of s)) c.in-Going.is fed) c.finish.ensures.answer

pub returns-in-Failed-clause-read : goal.returns-in-Failed-clause-read
returns-in-Failed-clause-read c = λ bytes fed.
    ends_failed bytes c.in-Failed.error (subst (λ (s : ReaderStage). IsFed bytes (progress_of s)) c.in-Failed.is fed)
