use Rattle.std.proofs.Common.{take}
use Rattle.text_commands.proofs.Common.{IsAmid, HasRun}
use Rattle.text_commands.proofs.jobs.run_requests.Given as goal

abbrev pub invariant-loop-request : goal.invariant-loop-request
invariant-loop-request g l =
    IsAmid g.R.AnyRun.hand (λ before after. HasRun (take l.request-index l.requests) before l.refused after) l.fn.run l.run
