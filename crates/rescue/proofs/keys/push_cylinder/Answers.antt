use Rattle.std.proofs.Common.{◌+◌}
use Rattle.rescue.proofs.Common.{track_keys, cylinder_keys}
use Rattle.rescue.proofs.KeyLemmas.{added, added_none, cylinder-more, cylinder-none}
use Rattle.rescue.proofs.keys.push_cylinder.Goals as goal

pub loop-h-init : goal.loop-h-init
loop-h-init c = added_none c.args.keys.now.items _ (cylinder-none c.args.sectors c.args.c)

pub loop-h-preserved : goal.loop-h-preserved
loop-h-preserved c =
    added c.args.keys.now.items (cylinder_keys c.args.sectors c.loop-h.h c.args.c) c.loop-h.keys.items (track_keys c.args.sectors c.args.c c.loop-h.h)
    c.push_track.new.keys.items (cylinder_keys c.args.sectors (c.loop-h.h + 1) c.args.c)
    c.loop-h.invariant c.in_ok-push_track.ensures (cylinder-more c.args.sectors c.loop-h.h c.args.c)
