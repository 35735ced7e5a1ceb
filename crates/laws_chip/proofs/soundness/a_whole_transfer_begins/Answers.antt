use Rattle.laws_chip.proofs.WholeTransfers.{byte_begins, call_held, step_begins}
use Rattle.laws_chip.proofs.soundness.a_whole_transfer_begins.Goals as goal

pub returns-clause-comes : goal.returns-clause-comes
returns-clause-comes c = byte_begins

pub returns-clause-held : goal.returns-clause-held
returns-clause-held c = call_held

pub returns-clause-released : goal.returns-clause-released
returns-clause-released c = step_begins
