use Rattle.std.proofs.Common.{◌≡◌, ◌+◌, ◌≤◌, ◌++◌, length}
use Rattle.rescue.proofs.Common.{log_text, IsLog}
use Rattle.rescue.proofs.read.read_log.Given as goal

-- the lines so far are a log, and what is left is the text after them
abbrev pub invariant-loop-rest : goal.invariant-loop-rest
invariant-loop-rest l = record {
  begins : l.bytes ≡ log_text l.lines.items ++ l.rest;
  good : IsLog l.sectors l.lines.items;
  counted : length l.lines.items + length l.rest ≤ length l.bytes;
}

abbrev pub decreases-loop-rest : goal.decreases-loop-rest
decreases-loop-rest l = length l.rest
