use Rattle.std.proofs.Common.{arith, sym}
use Rattle.disk_commands.proofs.Common.{err_from_is_err_and, begins, goes_on, ends, over}
use Rattle.disk_commands.specs.Import.{writes_track, writes_record}
use Rattle.disk_commands.proofs.import.write_track.Goals as goal

pub loop-r-init : goal.loop-r-init
loop-r-init g c = begins _ _ _ _ _ _

pub returns-in_err-carry : goal.returns-in_err-carry
unfolding writes_track writes_record
returns-in_err-carry g c =
    let p = err_from_is_err_and c.from_residual.result c.from_residual.ensures.1 in
    rw (p.1, p.2) (ends _ _ _ _ _ _ _ _ _ _ _ c.loop-r.invariant (rw (sym c.record_address.ensures) c.in_err-carry.ensures) (omega arith))

pub loop-r-preserved : goal.loop-r-preserved
unfolding writes_record
loop-r-preserved g c =
    goes_on _ _ _ _ _ _ _ _ _ _ _ c.loop-r.invariant (rw (sym c.record_address.ensures) c.in_ok-carry.ensures) (omega arith)

pub returns : goal.returns
unfolding writes_track
returns g c = over _ _ _ _ _ _ _ _ _ c.loop-r.invariant (omega arith)
