use Rattle.std.proofs.Common.{◌+◌}
use Rattle.sector_map.proofs.Common.{track_keys, cylinder_keys}
use Rattle.sector_map.proofs.Listed.{added_none, added_more, cylinder_keys-more, cylinder_keys-none}
use Rattle.sector_map.proofs.standard.push_cylinder.Goals as goal

pub loop-h-init : goal.loop-h-init
loop-h-init c = added_none c.args.medium.now (cylinder_keys c.args.sectors 0 c.args.c) c.args.failed.now.items (cylinder_keys-none c.args.sectors c.args.c)

pub loop-h-preserved : goal.loop-h-preserved
loop-h-preserved c =
    let added = c.in_ok-push_track.ensures in
    added_more c.args.medium.now (cylinder_keys c.args.sectors c.loop-h.h c.args.c) (track_keys c.args.sectors c.args.c c.loop-h.h) (cylinder_keys c.args.sectors (c.loop-h.h + 1) c.args.c)
    c.args.failed.now.items c.loop-h.failed.items c.push_track.new.failed.items added.0
    c.loop-h.invariant added.2 added.1 (cylinder_keys-more c.args.sectors c.loop-h.h c.args.c)
