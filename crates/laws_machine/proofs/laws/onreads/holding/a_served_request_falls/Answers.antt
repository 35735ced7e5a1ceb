use Rattle.laws_machine.proofs.OnReads.Served.{served}
use Rattle.laws_machine.proofs.laws.onreads.holding.a_served_request_falls.Goals as goal

pub returns-clause-falls : goal.returns-clause-falls
returns-clause-falls c = λ most chips ruled few. (served most chips ruled few).falls
