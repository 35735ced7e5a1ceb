use Rattle.laws_program.proofs.Fits.{verifies_well}
use Rattle.laws_program.proofs.verify.verify_of_a_disk.Goals as goal

pub returns : goal.returns
returns c = verifies_well c.args._name.now
