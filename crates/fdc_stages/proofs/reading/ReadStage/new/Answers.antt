use Rattle.std.proofs.Common.{refl, Some}
use Rattle.fdc_stages.proofs.reading.ReadStage.new.Goals as goal

pub returns : goal.returns
returns c = λ key. (c.new.ensures (Some key), refl)
