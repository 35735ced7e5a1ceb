use Rattle.std.proofs.Common.{arith}
use Rattle.disk_commands.proofs.Common.{err_from_is_err_and, begins, goes_on, ends, over}
use Rattle.disk_commands.proofs.copy.copy_tracks.Goals as goal

pub loop-c-init : goal.loop-c-init
loop-c-init g c = begins _ _ _ _ _ _

pub returns-in_err-copy_cylinder : goal.returns-in_err-copy_cylinder
returns-in_err-copy_cylinder g c =
    let p = err_from_is_err_and c.from_residual.result c.from_residual.ensures.1 in
    rw (p.1, p.2) (ends _ _ _ _ _ _ _ _ _ _ _ c.loop-c.invariant c.in_err-copy_cylinder.ensures (omega arith))

pub loop-c-preserved : goal.loop-c-preserved
loop-c-preserved g c = goes_on _ _ _ _ _ _ _ _ _ _ _ c.loop-c.invariant c.in_ok-copy_cylinder.ensures (omega arith)

pub returns : goal.returns
returns g c = over _ _ _ _ _ _ _ _ _ c.loop-c.invariant (omega arith)
