use Rattle.std.proofs.Common.{arith, List, ℕ, Ok, Err, subst}
use Rattle.disk_commands.proofs.Common.{err_from_is_err_and, Part, RanPart, begins, reads_track, GoesOn}
use Rattle.disk_commands.proofs.FlatTurns.{bytes_go, bytes_end, bytes_over}
use Rattle.disk_commands.proofs.FlatTracks.{tracks_same}
use Rattle.disk_commands.proofs.export.read_tracks.Goals as goal

pub loop-track-init : goal.loop-track-init
loop-track-init g c = begins _ _ _ _ _ _

pub returns-in_err-read_track : goal.returns-in_err-read_track
returns-in_err-read_track g c =
    let p = err_from_is_err_and c.from_residual.result c.from_residual.ensures.1 in
    rw (p.1, p.2) (subst (λ (all : Part (List ℕ)). RanPart g.R.AnyRun.hand (GoesOn all c.read_track.new.flat.items) c.args.run.now
    (Err c.in_err-read_track.field-0.0) c.read_track.new.run) (tracks_same 80 (reads_track c.args.sectors) c.args.flat.now.items)
    (bytes_end _ _ _ _ _ _ _ _ _ _ _ _ c.loop-track.invariant c.in_err-read_track.ensures (omega arith)))

pub loop-track-preserved : goal.loop-track-preserved
loop-track-preserved g c = bytes_go _ _ _ _ _ _ _ _ _ _ _ c.loop-track.invariant c.in_ok-read_track.ensures (omega arith)

pub returns : goal.returns
returns g c =
    subst (λ (all : Part (List ℕ)). RanPart g.R.AnyRun.hand (GoesOn all c.loop-track.flat.items) c.args.run.now (Ok tt) c.loop-track.run)
    (tracks_same 80 (reads_track c.args.sectors) c.args.flat.now.items)
    (bytes_over _ _ _ _ _ _ _ _ _ c.loop-track.invariant (omega arith))
