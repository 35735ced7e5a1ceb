use Rattle.std.proofs.Common.{◌≡◌, ◌∙◌, ◌++◌, List, ap}
use Rattle.imagedisk.proofs.Common.{take_all, flat_map, ImdTrack, image_of, text, track_bytes, file_of}
use Rattle.imagedisk.proofs.AgainTracks.{image_again}
use Rattle.imagedisk.proofs.writing.write_imd.Goals as goal

pub returns-clause-again : goal.returns-clause-again
returns-clause-again c =
    let image = c.args.image.now in
    let end = rw c.as_slice-track-items.ensures at c.loop-track-test.false in
    let spelled : c.loop-track.out.items ≡ file_of image = c.loop-track.invariant ∙ ap (λ (tracks : List ImdTrack). text ++ flat_map (track_bytes image.rate) tracks) (take_all c.loop-track.track-index image.tracks end) in
    ap image_of spelled ∙ image_again image c.requires
