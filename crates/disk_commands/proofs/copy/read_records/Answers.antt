use Rattle.std.proofs.Common.{arith}
use Rattle.disk_commands.proofs.Common.{err_from_is_err_and, begins, goes_on, ends, over}
use Rattle.disk_commands.proofs.copy.read_records.Goals as goal

pub loop-r-init : goal.loop-r-init
loop-r-init g c = begins _ _ _ _ _ _

pub returns-in_err-marks : goal.returns-in_err-marks
returns-in_err-marks g c =
    let p = err_from_is_err_and c.from_residual.result c.from_residual.ensures.1 in
    rw (p.1, p.2) (ends _ _ _ _ _ _ _ _ _ _ _ c.loop-r.invariant c.in_err-marks.ensures (omega arith))

pub loop-r-preserved : goal.loop-r-preserved
loop-r-preserved g c = goes_on _ _ _ _ _ _ _ _ _ _ _ c.loop-r.invariant c.in_ok-marks.ensures (omega arith)

pub returns : goal.returns
returns g c = over _ _ _ _ _ _ _ _ _ c.loop-r.invariant (omega arith)
