use Rattle.flat_files.proofs.Common.{sector_bytes, tracks_of}
use Rattle.flat_files.proofs.Places.{place_inside}
use Rattle.flat_files.proofs.form.FlatForm.place.Goals as goal

pub returns-clause-inside : goal.returns-clause-inside
returns-clause-inside c =
    let form = c.args.self in
    rw c.size.ensures.value (place_inside (tracks_of form) c.args.track form.sectors c.args.i (sector_bytes form) c.requires.track c.requires.there)
