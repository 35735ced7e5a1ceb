use Rattle.std.proofs.Common.{take}
use Rattle.track_separator.proofs.Twins.{IsScanned}
use Rattle.track_separator.proofs.passing.count_passing.Given as goal

-- the words counted bring no run, and the next word brings none either
abbrev pub invariant-loop-i : goal.invariant-loop-i
invariant-loop-i l = IsScanned (take l.i l.fn.words) l.fn.cells l.before
