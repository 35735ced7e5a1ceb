use Rattle.std.proofs.Common.{subst, sym}
use Rattle.raw_image.proofs.Common.{Progress, IsFed}
use Rattle.raw_image.proofs.reader.ImageReader.finish.Goals as goal

pub returns-clause-read : goal.returns-clause-read
returns-clause-read c = λ bytes fed. c.finish.ensures.read bytes (subst (λ (p : Progress). IsFed bytes p) (sym c.self.view_is) fed)
