use Rattle.flat_files.proofs.Standard.{flat_again}
use Rattle.flat_files.proofs.laws.flat_made_again.Goals as goal

pub returns : goal.returns
returns c = flat_again c.args._bytes.now c.args._sectors c.args._medium.now c.args._file.now c.requires.made c.requires.given
