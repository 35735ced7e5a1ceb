use Rattle.std.proofs.Common.{◌-◌, ◌+◌, [], ◌∷◌, arith}
use Rattle.rescue.proofs.Common.{key_of, track_keys}
use Rattle.rescue.proofs.KeyLemmas.{added, added_none, track-more, track-none}
use Rattle.rescue.proofs.keys.push_track.Goals as goal

pub loop-r-init : goal.loop-r-init
loop-r-init c = added_none c.args.keys.now.items _ (track-none c.args.c c.args.h)

pub loop-r-preserved : goal.loop-r-preserved
loop-r-preserved c =
    added c.args.keys.now.items (track_keys (c.loop-r.r - 1) c.args.c c.args.h) c.loop-r.keys.items (key_of c.args.c c.args.h c.loop-r.r ∷ [])
    c.push.new.self.items (track_keys (c.loop-r.r + 1 - 1) c.args.c c.args.h)
    c.loop-r.invariant c.in_ok-push.ensures.items (track-more c.loop-r.r c.args.c c.args.h (omega arith))
