use Rattle.laws_machine.proofs.OnLines.Showing.{call_lines}
use Rattle.laws_machine.proofs.laws.onlines.empty_drives_keep_their_lines.Goals as goal

pub returns-clause-call : goal.returns-clause-call
returns-clause-call c = call_lines
