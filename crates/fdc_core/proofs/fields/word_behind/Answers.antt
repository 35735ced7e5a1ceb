use Rattle.std.proofs.Common.{ap}
use Rattle.std.specs.Prelude.{slice_index}
use Rattle.fdc_core.proofs.fields.word_behind.Goals as goal

pub returns : goal.returns
returns c = ap (λ words. slice_index words 0) c.encode_byte.ensures
