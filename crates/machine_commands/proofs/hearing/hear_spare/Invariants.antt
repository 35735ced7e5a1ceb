use Rattle.std.proofs.Common.{take, All}
use Rattle.machine_commands.proofs.Common.{DriveTells, counts_of}
use Rattle.machine_commands.proofs.hearing.hear_spare.Given as goal

-- the drives so far report what is left of their faults only where their counts can't reach the last value
abbrev pub invariant-loop-drive : goal.invariant-loop-drive
invariant-loop-drive g l = All (λ drive. DriveTells (counts_of (g.D.Drive.state drive))) (take l.drive-index l.drives)
