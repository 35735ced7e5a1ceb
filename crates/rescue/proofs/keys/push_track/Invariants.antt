use Rattle.std.proofs.Common.{◌≡◌, ◌-◌, ◌++◌}
use Rattle.rescue.proofs.Common.{track_keys}
use Rattle.rescue.proofs.keys.push_track.Given as goal

-- the records so far
abbrev pub invariant-loop-r : goal.invariant-loop-r
invariant-loop-r l = l.keys.items ≡ l.fn.keys.items ++ track_keys (l.r - 1) l.c l.h
