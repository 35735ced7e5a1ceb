use Rattle.std.proofs.Common.{subst}
use Rattle.remaster.proofs.Common.{err_from_is_err_and, track_of, Rate, IsTrackError}
use Rattle.remaster.proofs.Disks.{err_goes_on}
use Rattle.remaster.proofs.disk.remaster_on.Goals as goal

pub returns-in_err-track-clause-unfit : goal.returns-in_err-track-clause-unfit
returns-in_err-track-clause-unfit c =
    let disk = c.args.medium.now in
    let p = err_from_is_err_and c.from_residual.result c.from_residual.ensures.1 in
    let error = c.in_err-track.field-0.0 in
    let here : IsTrackError disk.rate c.args.c c.args.h (track_of disk c.args.c c.args.h) error =
    subst (λ (r : Rate). IsTrackError r c.args.c c.args.h (track_of disk c.args.c c.args.h) error) c.rate.ensures
    (subst (λ track. IsTrackError c.rate.result c.args.c c.args.h track error) c.in-Some.ensures.track c.in_err-track.ensures.unfit) in
    err_goes_on (IsTrackError disk.rate c.args.c c.args.h (track_of disk c.args.c c.args.h)) c.from_residual.result error p.0 p.1 p.2 here
