use Rattle.std.proofs.Common.{refl, Some}
use Rattle.fdc_stages.proofs.writing.WriteStage.new.Goals as goal

pub returns-clause-begins : goal.returns-clause-begins
returns-clause-begins c = λ key deleted. (refl, (c.new.ensures (Some key), (refl, refl)))
