use Rattle.std.proofs.Common.{◌*◌, ◌≤◌, ◌∙◌, ap, List}
use Rattle.imagedisk.proofs.Common.{ImdTrack, told_rate}
use Rattle.imagedisk.proofs.Imaged.{image_has}
use Rattle.imagedisk.proofs.Places.{all_taken}
use Rattle.imagedisk.proofs.taking.from_medium.Goals as goal

pub returns-clause-taken : goal.returns-clause-taken
returns-clause-taken c =
    let disk = c.args.medium.now in
    let tracks = c.loop-place.tracks in
    let all : disk.cylinders * disk.heads ≤ c.loop-place.place = rw (← c.cylinders.ensures.value, ← c.heads.ensures.value) c.loop-place-test.false in
    let rate = c.told_rate.ensures ∙ ap (λ (ts : List ImdTrack). told_rate disk ts) c.as_slice.ensures in
    (all_taken disk c.loop-place.place tracks c.told_rate.result c.heads.ensures.valid.heads all rate c.loop-place.invariant).0

pub returns-clause-valid : goal.returns-clause-valid
returns-clause-valid c =
    let disk = c.args.medium.now in
    let tracks = c.loop-place.tracks in
    let all : disk.cylinders * disk.heads ≤ c.loop-place.place = rw (← c.cylinders.ensures.value, ← c.heads.ensures.value) c.loop-place-test.false in
    let rate = c.told_rate.ensures ∙ ap (λ (ts : List ImdTrack). told_rate disk ts) c.as_slice.ensures in
    (all_taken disk c.loop-place.place tracks c.told_rate.result c.heads.ensures.valid.heads all rate c.loop-place.invariant).1

pub returns-clause-found : goal.returns-clause-found
returns-clause-found c = image_has c.args.medium.now (record { rate = c.told_rate.result; tracks = c.loop-place.tracks }) (returns-clause-taken c).0
