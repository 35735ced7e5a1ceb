use Rattle.std.proofs.Common.{◌<◌, subst, sym}
use Rattle.raw_image.proofs.Common.{Disk, HasTrack, disk_of, header_view}
use Rattle.raw_image.proofs.Tracks.{track_of-others}
use Rattle.raw_image.proofs.medium.Medium.set_word.Goals as goal

pub returns-clause-others : goal.returns-clause-others
returns-clause-others c = λ b g had other.
    let view = sym c.self.view_is in
    let has : HasTrack c.args.self.now c.args.c c.args.h = (c.requires.cylinder, c.requires.head) in
    rw (c.start-start.ensures.place, view)
    (track_of-others (disk_of (header_view c.self.inside.shape) c.self.inside.words.items) c.args.c c.args.h c.args.place c.args.word (subst (λ (d : Disk). HasTrack d c.args.c c.args.h) view has)
    (subst (λ (d : Disk). c.args.place < d.words_per_track) view c.requires.place) b g (subst (λ (d : Disk). HasTrack d b g) view had) other)
