use Rattle.std.proofs.Common.{refl}
use Rattle.sector_map.proofs.Tracks.{regular_there}
use Rattle.sector_map.proofs.disks.is_regular_track.Goals as goal

pub returns-in-Some : goal.returns-in-Some
returns-in-Some c =
    regular_there c.args.medium.now c.args.c c.args.h c.is_regular.result c.in-Some.words.now c.in-Some.ensures.track (c.in-Some.ensures.found.0 refl) c.is_regular.ensures
