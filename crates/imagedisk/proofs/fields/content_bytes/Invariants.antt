use Rattle.std.proofs.Common.{◌≡◌}
use Rattle.imagedisk.proofs.Common.{bytes_at}
use Rattle.imagedisk.proofs.fields.content_bytes.Given as goal

abbrev pub invariant-loop-i : goal.invariant-loop-i
invariant-loop-i l = l.content.items ≡ bytes_at l.words l.place l.i
