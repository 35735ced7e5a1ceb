use Rattle.std.proofs.Common.{◌-◌, ◌+◌, [], ◌∷◌, arith}
use Rattle.sector_map.proofs.Common.{key_of, track_keys, unless_found}
use Rattle.sector_map.proofs.Listed.{added_none, added_more, one_failing, track_keys-more, track_keys-none}
use Rattle.sector_map.proofs.standard.push_track.Goals as goal

pub loop-r-init : goal.loop-r-init
loop-r-init c = added_none c.args.medium.now (track_keys 0 c.args.c c.args.h) c.args.failed.now.items (track_keys-none c.args.c c.args.h)

pub loop-r-preserved : goal.loop-r-preserved
loop-r-preserved c =
    let key = key_of c.args.c c.args.h c.loop-r.r in
    added_more c.args.medium.now (track_keys (c.loop-r.r - 1) c.args.c c.args.h) (key ∷ []) (track_keys (c.loop-r.r + 1 - 1) c.args.c c.args.h)
    c.args.failed.now.items c.loop-r.failed.items c.push_unless_found.new.failed.items (unless_found key c.look.result)
    c.loop-r.invariant (one_failing c.args.medium.now key c.look.result c.look.ensures) c.in_ok-push_unless_found.ensures
    (track_keys-more c.loop-r.r c.args.c c.args.h (omega arith))
