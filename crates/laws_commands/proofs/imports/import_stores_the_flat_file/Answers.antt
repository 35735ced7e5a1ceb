use Rattle.laws_commands.proofs.ImportRun.{import_stores}
use Rattle.laws_commands.proofs.imports.import_stores_the_flat_file.Goals as goal

pub returns : goal.returns
returns c old new course = import_stores c.args._flat.now c.args._name.now old new course
