use Rattle.std.proofs.Common.{◌-◌, ◌*◌}
use Rattle.floppy_driver.proofs.Common.{CostsFor}
use Rattle.floppy_driver.proofs.TriedWrites.{BetweenWrites}
use Rattle.floppy_driver.proofs.driver.Driver.write_in_attempts.Given as goal

-- the attempts so far
abbrev pub invariant-loop-attempt : goal.invariant-loop-attempt
invariant-loop-attempt g l =
    g.C.Commands.is_idle l.machine
    × BetweenWrites l.fn.self (g.C.Commands.rig l.fn.machine) l.bay l.key l.address l.deleted (l.attempt - 1) l.last l.self (g.C.Commands.rig l.machine)
    × CostsFor l.bay ((l.attempt - 1) * 4) ((l.attempt - 1) * 765) ((l.attempt - 1) * 77) (g.C.Commands.rig l.fn.machine) (g.C.Commands.rig l.machine)
