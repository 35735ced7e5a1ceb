use borrow.Author.Count.{below_more}
use Rattle.sector_map.proofs.Common.{HasTrack, track_of, IsRegular}
use Rattle.sector_map.proofs.disks.is_regular_cylinder.Goals as goal

pub loop-h-preserved : goal.loop-h-preserved
loop-h-preserved c =
    below_more (λ h. HasTrack c.args.medium.now c.args.c h → IsRegular (track_of c.args.medium.now c.args.c h) c.args.c h) c.loop-h.h c.loop-h.invariant (c.is_regular_track.ensures.0 c.if-not-is_regular_track.false)
