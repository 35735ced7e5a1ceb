use Rattle.std.proofs.Common.{List, ℕ, drop, subst}
use Rattle.imagedisk.proofs.Common.{IsWithTrack, track_start}
use Rattle.imagedisk.proofs.OnMedium.{whole_track}
use Rattle.imagedisk.proofs.making.store_track.Goals as goal

pub returns : goal.returns
returns c =
    let disk = c.args.medium.now in
    subst (λ (track : List ℕ). IsWithTrack disk c.args.c c.args.h track c.set_words.new.self)
    (whole_track disk.words_per_track (drop (track_start disk c.args.c c.args.h) disk.words) c.args.words.now c.requires.whole) c.set_words.ensures.becomes
