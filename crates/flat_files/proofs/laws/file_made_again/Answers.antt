use Rattle.flat_files.proofs.Fit.{given_again}
use Rattle.flat_files.proofs.laws.file_made_again.Goals as goal

pub returns : goal.returns
returns c = given_again c.args._form c.args._bytes.now c.args._medium.now c.args._file.now c.requires.made c.requires.given
