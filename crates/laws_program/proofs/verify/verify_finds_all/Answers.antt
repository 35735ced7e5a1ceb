use Rattle.laws_program.proofs.Fits.{verifies_all}
use Rattle.laws_program.proofs.verify.verify_finds_all.Goals as goal

pub returns : goal.returns
returns c = verifies_all c.args._name.now
