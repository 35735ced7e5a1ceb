use Rattle.laws_chip.proofs.Called.{media_serve}
use Rattle.laws_chip.proofs.Served.{begins_serving, commands_serve, counts_serve, ends_serve, gives_serve, steps_serve, takes_serve, transfers_serve, writes_serve}
use Rattle.laws_chip.proofs.several.a_served_command_goes_on.Goals as goal

pub returns-clause-steps : goal.returns-clause-steps
returns-clause-steps c = steps_serve

pub returns-clause-takes : goal.returns-clause-takes
returns-clause-takes c = takes_serve

pub returns-clause-gives : goal.returns-clause-gives
returns-clause-gives c = gives_serve

pub returns-clause-counts : goal.returns-clause-counts
returns-clause-counts c = counts_serve

pub returns-clause-ends : goal.returns-clause-ends
returns-clause-ends c = ends_serve

pub returns-clause-writes : goal.returns-clause-writes
returns-clause-writes c = writes_serve

pub returns-clause-changes : goal.returns-clause-changes
returns-clause-changes c = media_serve

pub returns-clause-commands : goal.returns-clause-commands
returns-clause-commands c = commands_serve

pub returns-clause-transfers : goal.returns-clause-transfers
returns-clause-transfers c = transfers_serve

pub returns-clause-begins : goal.returns-clause-begins
returns-clause-begins c = begins_serving
