use Rattle.std.proofs.Common.{◌≡◌, take}
use Rattle.rescue.proofs.Common.{log_text}
use Rattle.rescue.proofs.write.write_log.Given as goal

-- the text of the lines so far
abbrev pub invariant-loop-line : goal.invariant-loop-line
invariant-loop-line l = l.bytes.items ≡ log_text (take l.line-index l.lines)
