use Rattle.std.proofs.Common.{◌≡◌}
use Rattle.remaster.proofs.Common.{bytes_at}
use Rattle.remaster.proofs.sectors.copy_content.Given as goal

-- the bytes so far
abbrev pub invariant-loop-i : goal.invariant-loop-i
invariant-loop-i l = l.bytes.items ≡ bytes_at l.words l.place l.i
