use Rattle.std.proofs.Common.{arith, sym}
use Rattle.disk_commands.proofs.Common.{err_from_is_err_and, begins, goes_on, ends, over}
use Rattle.disk_commands.specs.Import.{fills_track}
use Rattle.disk_commands.proofs.import.fill_track.Goals as goal

pub loop-r-init : goal.loop-r-init
loop-r-init g c = begins _ _ _ _ _ _

pub returns-in_err-fill_record : goal.returns-in_err-fill_record
unfolding fills_track
returns-in_err-fill_record g c =
    let p = err_from_is_err_and c.from_residual.result c.from_residual.ensures.1 in
    rw (p.1, p.2) (ends _ _ _ _ _ _ _ _ _ _ _ c.loop-r.invariant
    (rw (sym c.place-from.ensures.place, sym c.record_address.ensures) c.in_err-fill_record.ensures) (omega arith))

pub loop-r-preserved : goal.loop-r-preserved
loop-r-preserved g c =
    goes_on _ _ _ _ _ _ _ _ _ _ _ c.loop-r.invariant
    (rw (sym c.place-from.ensures.place, sym c.record_address.ensures) c.in_ok-fill_record.ensures) (omega arith)

pub returns : goal.returns
unfolding fills_track
returns g c = over _ _ _ _ _ _ _ _ _ c.loop-r.invariant (omega arith)
