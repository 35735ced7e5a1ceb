use Rattle.std.proofs.Common.{◌≡◌, take}
use Rattle.test_driver.proofs.Common.{bytes_at}
use Rattle.test_driver.proofs.drive.copy_content.Given as goal

-- the bytes so far
abbrev pub invariant-loop-i : goal.invariant-loop-i
invariant-loop-i l = take l.i l.content ≡ bytes_at l.track l.place l.i
