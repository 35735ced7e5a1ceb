use Rattle.std.proofs.Common.{◌/◌, ◌%◌}
use Rattle.imagedisk.proofs.Common.{err_from_is_err_and}
use Rattle.imagedisk.proofs.Places.{at_place, failed_place, skip_place, taken_place}
use Rattle.imagedisk.proofs.taking.take_place.Goals as goal

pub returns-in_err-track : goal.returns-in_err-track
returns-in_err-track c =
    let p = err_from_is_err_and c.from_residual.result c.from_residual.ensures.1 in
    let disk = c.args.medium.now in
    let heads = c.heads-heads.result in
    let place = c.args.place in
    let one = c.heads-heads.ensures.valid.heads in
    let at = at_place disk heads place c.heads-heads.ensures.value one c.requires.within in
    rw (p.1, p.2) (failed_place disk (place / heads) (place % heads) place c.args.tracks.now c.args.tracks.now c.in_err-track.field-0.0 one at.0 at.1 c.requires.taken c.in_err-track.ensures)

pub returns-in_ok-push-in-Some : goal.returns-in_ok-push-in-Some
returns-in_ok-push-in-Some c =
    let disk = c.args.medium.now in
    let heads = c.heads-heads.result in
    let place = c.args.place in
    let one = c.heads-heads.ensures.valid.heads in
    let at = at_place disk heads place c.heads-heads.ensures.value one c.requires.within in
    let taken = rw c.in-Some.is at c.in_ok-track.ensures in
    rw c.in_ok-push-in-Some.ensures.pushed (taken_place disk (place / heads) (place % heads) place c.args.tracks.now c.in-Some.track one at.0 at.1 taken c.requires.taken)

pub returns-in-None : goal.returns-in-None
returns-in-None c =
    let disk = c.args.medium.now in
    let heads = c.heads-heads.result in
    let place = c.args.place in
    let one = c.heads-heads.ensures.valid.heads in
    let at = at_place disk heads place c.heads-heads.ensures.value one c.requires.within in
    let none = rw c.in-None.is at c.in_ok-track.ensures in
    skip_place disk (place / heads) (place % heads) place c.args.tracks.now one at.0 at.1 none c.requires.taken
