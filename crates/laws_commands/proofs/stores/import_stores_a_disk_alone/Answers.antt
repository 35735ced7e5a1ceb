use Rattle.laws_commands.proofs.ScriptStores.{import_stores}
use Rattle.laws_commands.proofs.stores.import_stores_a_disk_alone.Goals as goal

pub returns : goal.returns
returns c = λ old new course ended does. import_stores c.args._flat.now c.args._name.now old course new ended does
