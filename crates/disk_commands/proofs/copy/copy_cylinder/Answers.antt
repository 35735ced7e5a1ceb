use Rattle.std.proofs.Common.{arith}
use Rattle.disk_commands.proofs.Common.{err_from_is_err_and, begins, goes_on, ends, over}
use Rattle.disk_commands.proofs.copy.copy_cylinder.Goals as goal

pub loop-h-init : goal.loop-h-init
loop-h-init g c = begins _ _ _ _ _ _

pub returns-in_err-copy_track : goal.returns-in_err-copy_track
returns-in_err-copy_track g c =
    let p = err_from_is_err_and c.from_residual.result c.from_residual.ensures.1 in
    rw (p.1, p.2) (ends _ _ _ _ _ _ _ _ _ _ _ c.loop-h.invariant c.in_err-copy_track.ensures (omega arith))

pub loop-h-preserved : goal.loop-h-preserved
loop-h-preserved g c = goes_on _ _ _ _ _ _ _ _ _ _ _ c.loop-h.invariant c.in_ok-copy_track.ensures (omega arith)

pub returns : goal.returns
returns g c = over _ _ _ _ _ _ _ _ _ c.loop-h.invariant (omega arith)
