use Rattle.remaster.proofs.Relays.{AreWritten}
use Rattle.remaster.proofs.relaid.relay.Given as goal

-- the sectors so far are written
abbrev pub invariant-loop-i : goal.invariant-loop-i
invariant-loop-i l = AreWritten l.fn.rate l.c l.h l.n l.gap3 l.sectors l.i l.track.items
