use Rattle.std.proofs.Common.{◌-◌, ◌^◌, ◌<◌}
use Rattle.track_separator.proofs.Remade.{IsRemade}
use Rattle.track_separator.proofs.passing.cells_behind.Given as goal

-- the words so far are in the register
abbrev pub invariant-loop-place : goal.invariant-loop-place
invariant-loop-place l = (l.kept < 2 ^ 128) × IsRemade l.fn.words l.fn.cells (l.fn.count - 8) l.place l.kept
