use Rattle.std.proofs.Common.{arith, ◌<◌, length}
use Rattle.text_commands.proofs.Common.{amid_begins, amid_goes, amid_ends}
use Rattle.text_commands.proofs.JobRounds.{has-run-none, has-run-next, broken}
use Rattle.text_commands.proofs.jobs.run_requests.Goals as goal

pub loop-request-init : goal.loop-request-init
loop-request-init g c = amid_begins _ _ _ (has-run-none _)

pub returns-in-Err : goal.returns-in-Err
returns-in-Err g c =
    let within : c.loop-request.request-index < length c.args.requests.now = omega arith in
    amid_ends _ _ _ _ c.in-Err.ended _ _ _ c.loop-request.invariant c.in-Err.ensures
    (broken _ _ _ c.args.requests.now c.loop-request.request-index c.request-item.result c.loop-request.refused c.in-Err.ended
    c.loop-request.invariant.at within c.request-item.is c.in-Err.ensures.goes)

pub loop-request-preserved : goal.loop-request-preserved
loop-request-preserved g c =
    let within : c.loop-request.request-index < length c.args.requests.now = omega arith in
    amid_goes _ _ _ _ c.in-Ok.refusal _ _ _ c.loop-request.invariant c.in-Ok.ensures
    (has-run-next _ _ _ c.args.requests.now c.loop-request.request-index c.request-item.result c.loop-request.refused c.in-Ok.refusal
    c.either-refused.result c.loop-request.invariant.at c.in-Ok.ensures.goes within c.request-item.is c.either-refused.ensures)
