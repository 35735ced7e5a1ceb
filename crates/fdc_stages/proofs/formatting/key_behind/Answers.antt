use Rattle.std.proofs.Common.{refl}
use Rattle.fdc_stages.proofs.Keyed.{key_shifts}
use Rattle.fdc_stages.proofs.formatting.key_behind.Goals as goal

pub returns : goal.returns
returns c = λ handed was. key_shifts c.args.takes handed c.args.key _ c.args.byte c.if-not-takes.false refl was
