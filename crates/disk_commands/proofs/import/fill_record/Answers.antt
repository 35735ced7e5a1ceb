use Rattle.std.proofs.Common.{arith}
use Rattle.disk_commands.proofs.Common.{err_from_is_err_and, begins, goes_on, ends, over}
use Rattle.disk_commands.specs.Import.{fills_record, fills_byte}
use Rattle.disk_commands.proofs.import.fill_record.Goals as goal

pub loop-i-init : goal.loop-i-init
loop-i-init g c = begins _ _ _ _ _ _

pub returns-in_err-carry : goal.returns-in_err-carry
unfolding fills_record fills_byte
returns-in_err-carry g c =
    let p = err_from_is_err_and c.from_residual.result c.from_residual.ensures.1 in
    rw (p.1, p.2) (ends _ _ _ _ _ _ _ _ _ _ _ c.loop-i.invariant c.in_err-carry.ensures (omega arith))

pub loop-i-preserved : goal.loop-i-preserved
unfolding fills_byte
loop-i-preserved g c = goes_on _ _ _ _ _ _ _ _ _ _ _ c.loop-i.invariant c.in_ok-carry.ensures (omega arith)

pub returns : goal.returns
unfolding fills_record fills_byte
returns g c = over _ _ _ _ _ _ _ _ _ c.loop-i.invariant (omega arith)
