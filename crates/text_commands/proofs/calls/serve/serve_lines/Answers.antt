use Rattle.std.proofs.Common.{arith, ◌<◌, length}
use Rattle.text_commands.proofs.Common.{amid_begins, amid_goes, amid_ends}
use Rattle.text_commands.proofs.ServedCalls.{served_none, served_next, broken}
use Rattle.text_commands.proofs.calls.serve.serve_lines.Goals as goal

pub loop-line-init : goal.loop-line-init
loop-line-init g c = amid_begins _ _ _ (served_none _ c.new-front.result c.new-front.ensures)

pub returns-in-Err : goal.returns-in-Err
returns-in-Err g c =
    let within : c.loop-line.line-index < length c.args.lines.now = omega arith in
    amid_ends _ _ _ _ c.in-Err.ended _ _ _ c.loop-line.invariant c.in-Err.ensures
    (broken _ _ _ c.args.lines.now c.loop-line.line-index c.line-item.result c.loop-line.refused c.loop-line.front c.in-Err.ended
    c.loop-line.invariant.at within c.line-item.is c.in-Err.ensures.goes)

pub loop-line-preserved : goal.loop-line-preserved
loop-line-preserved g c =
    let within : c.loop-line.line-index < length c.args.lines.now = omega arith in
    amid_goes _ _ _ _ c.in-Ok.refusal _ _ _ c.loop-line.invariant c.in-Ok.ensures
    (served_next _ _ _ c.args.lines.now c.loop-line.line-index c.line-item.result c.loop-line.refused c.in-Ok.refusal
    c.either-refused.result c.loop-line.front c.serve_line.new.front c.loop-line.invariant.at c.in-Ok.ensures.goes within c.line-item.is
    c.either-refused.ensures)
