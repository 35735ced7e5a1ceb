use Rattle.std.proofs.Common.{arith}
use Rattle.disk_commands.proofs.Common.{err_from_is_err_and, begins}
use Rattle.disk_commands.specs.Export.{reads_track}
use Rattle.disk_commands.proofs.FlatTurns.{bytes_go, bytes_end, bytes_over}
use Rattle.disk_commands.proofs.export.read_track.Goals as goal

pub loop-r-init : goal.loop-r-init
loop-r-init g c = begins _ _ _ _ _ _

pub returns-in_err-read_record : goal.returns-in_err-read_record
unfolding reads_track
returns-in_err-read_record g c =
    let p = err_from_is_err_and c.from_residual.result c.from_residual.ensures.1 in
    rw (p.1, p.2) (bytes_end _ _ _ _ _ _ _ _ _ _ _ _ c.loop-r.invariant c.in_err-read_record.ensures (omega arith))

pub loop-r-preserved : goal.loop-r-preserved
loop-r-preserved g c = bytes_go _ _ _ _ _ _ _ _ _ _ _ c.loop-r.invariant c.in_ok-read_record.ensures (omega arith)

pub returns : goal.returns
unfolding reads_track
returns g c = bytes_over _ _ _ _ _ _ _ _ _ c.loop-r.invariant (omega arith)
