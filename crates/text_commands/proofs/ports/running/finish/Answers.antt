use Rattle.text_commands.specs.PortPlays.{AtStore}
use Rattle.text_commands.proofs.ports.running.finish.Goals as goal

pub returns-in-Err-clause-ends : goal.returns-in-Err-clause-ends
returns-in-Err-clause-ends g c = AtStore c.in-Err.stop c.in-Err.ensures.does.0 c.in-Err.ensures.does.1 c.stop_status.ensures
