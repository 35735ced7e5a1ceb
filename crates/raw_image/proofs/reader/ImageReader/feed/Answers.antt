use Rattle.std.proofs.Common.{◌++◌, subst, sym}
use Rattle.raw_image.proofs.Common.{ReaderStage, progress_of, Progress, IsFed}
use Rattle.raw_image.proofs.Feeding.{is_wrong}
use Rattle.raw_image.proofs.reader.ImageReader.feed.Goals as goal

pub returns-in-Ok-clause-fed : goal.returns-in-Ok-clause-fed
returns-in-Ok-clause-fed c = λ bytes fed.
    let stage = subst (λ (p : Progress). IsFed bytes p) (sym c.self.view_is) fed in
    c.in-Ok.ensures.fed bytes (subst (λ (s : ReaderStage). IsFed bytes (progress_of s)) (sym c.replace-stage.ensures.value) stage)

pub returns-in-Err-clause-wrong : goal.returns-in-Err-clause-wrong
returns-in-Err-clause-wrong c = λ bytes more fed.
    let stage = subst (λ (p : Progress). IsFed bytes p) (sym c.self.view_is) fed in
    is_wrong (bytes ++ c.args.piece.now) more c.in-Err.error (c.in-Err.ensures.fed bytes (subst (λ (s : ReaderStage). IsFed bytes (progress_of s)) (sym c.replace-stage.ensures.value) stage))
