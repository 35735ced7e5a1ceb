use Rattle.std.proofs.Common.{ℕ}
use borrow.Author.Count.{below_more}
use Rattle.sector_map.proofs.Common.{HasTrack, track_of, IsRegular}
use Rattle.sector_map.proofs.disks.is_regular_disk.Goals as goal

pub loop-c-preserved : goal.loop-c-preserved
loop-c-preserved c =
    below_more (λ k. (h : ℕ) → HasTrack c.args.medium.now k h → IsRegular (track_of c.args.medium.now k h) k h) c.loop-c.c c.loop-c.invariant (c.is_regular_cylinder.ensures.0 c.if-not-is_regular_cylinder.false)
