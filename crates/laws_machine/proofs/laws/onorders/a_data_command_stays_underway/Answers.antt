use Rattle.laws_machine.proofs.OnOrders.Accesses.{begins, inputs_keep, begin_leaves, begin_still, leaves_clear, outputs_keep}
use Rattle.laws_machine.proofs.laws.onorders.a_data_command_stays_underway.Goals as goal

pub returns-clause-begins : goal.returns-clause-begins
returns-clause-begins c = begins

pub returns-clause-still : goal.returns-clause-still
returns-clause-still c = begin_still

pub returns-clause-leaves : goal.returns-clause-leaves
returns-clause-leaves c = begin_leaves

pub returns-clause-reads : goal.returns-clause-reads
returns-clause-reads c = inputs_keep

pub returns-clause-writes : goal.returns-clause-writes
returns-clause-writes c = outputs_keep

pub returns-clause-flips : goal.returns-clause-flips
returns-clause-flips c = leaves_clear
