use Rattle.std.proofs.Common.{arith}
use Rattle.commands.proofs.Common.{err_from_is_err_and}
use Rattle.commands.proofs.Looping.{begins, goes_on, ends, over}
use Rattle.commands.proofs.opening.format_cylinder.Goals as goal

pub loop-h-init : goal.loop-h-init
loop-h-init g c = begins _ _ _ _ _ _

pub returns-in_err-carry : goal.returns-in_err-carry
returns-in_err-carry g c =
    let p = err_from_is_err_and c.from_residual.result c.from_residual.ensures.1 in
    rw (p.1, p.2) (ends _ _ _ _ _ _ _ _ _ _ _ c.loop-h.invariant c.in_err-carry.ensures (omega arith))

pub loop-h-preserved : goal.loop-h-preserved
loop-h-preserved g c = goes_on _ _ _ _ _ _ _ _ _ _ _ c.loop-h.invariant c.in_ok-carry.ensures (omega arith)

pub returns : goal.returns
returns g c = over _ _ _ _ _ _ _ _ _ c.loop-h.invariant (omega arith)
