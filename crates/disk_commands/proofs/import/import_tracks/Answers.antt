use Rattle.std.proofs.Common.{arith, Ok, Err, subst}
use Rattle.disk_commands.proofs.Common.{err_from_is_err_and, begins, goes_on, ends, over, Part, Goes, RanPart, imports_track}
use Rattle.disk_commands.proofs.FlatTracks.{tracks_same}
use Rattle.disk_commands.proofs.import.import_tracks.Goals as goal

pub loop-track-init : goal.loop-track-init
loop-track-init g c = begins _ _ _ _ _ _

pub returns-in_err-import_track : goal.returns-in_err-import_track
returns-in_err-import_track g c =
    let p = err_from_is_err_and c.from_residual.result c.from_residual.ensures.1 in
    rw (p.1, p.2) (subst (λ (all : Part (Unit {0})). RanPart g.R.AnyRun.hand (Goes all) c.args.run.now (Err c.in_err-import_track.field-0.0)
    c.import_track.new.run) (tracks_same 80 (imports_track c.args.flat.now c.args.sectors) tt)
    (ends _ _ _ _ _ _ _ _ _ _ _ c.loop-track.invariant c.in_err-import_track.ensures (omega arith)))

pub loop-track-preserved : goal.loop-track-preserved
loop-track-preserved g c = goes_on _ _ _ _ _ _ _ _ _ _ _ c.loop-track.invariant c.in_ok-import_track.ensures (omega arith)

pub returns : goal.returns
returns g c =
    subst (λ (all : Part (Unit {0})). RanPart g.R.AnyRun.hand (Goes all) c.args.run.now (Ok tt) c.loop-track.run)
    (tracks_same 80 (imports_track c.args.flat.now c.args.sectors) tt)
    (over _ _ _ _ _ _ _ _ _ c.loop-track.invariant (omega arith))
