use Rattle.std.proofs.Common.{◌≡◌, ◌++◌, map, take}
use Rattle.remaster.proofs.Common.{track_number, line_on}
use Rattle.remaster.proofs.lines.push_track.Given as goal

-- the lines of the fields so far
abbrev pub invariant-loop-one : goal.invariant-loop-one
invariant-loop-one l = l.lines.items ≡ l.fn.lines.items ++ map (line_on (track_number l.c l.h)) (take l.one-index l.one-items)
