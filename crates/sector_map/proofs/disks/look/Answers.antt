use Rattle.std.proofs.Common.{refl}
use Rattle.sector_map.proofs.Tracks.{look_there}
use Rattle.sector_map.proofs.disks.look.Goals as goal

pub returns-in-Some : goal.returns-in-Some
returns-in-Some c =
    look_there c.args.medium.now c.args.key c.find_sector.result c.in-Some.words.now c.in-Some.ensures.track (c.in-Some.ensures.found.0 refl) c.find_sector.ensures
