use Rattle.std.proofs.Common.{refl, rules}
use Rattle.std.specs.Prelude.{Ok}
use Rattle.telwyddus_c.proofs.flat_as.write_form.Goals as goal

pub returns-in-Ok : goal.returns-in-Ok
returns-in-Ok c = (Ok c.in-Ok.bytes, c.in-Ok.ensures, (search rules, refl, refl))
