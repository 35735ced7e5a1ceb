use Rattle.std.proofs.Common.{refl}
use Rattle.laws_program.proofs.Common.{ends_in_time, stays}
use Rattle.laws_program.proofs.accesses.commands_end_in_time.Goals as goal

-- no device step passes after the lines
pub returns : goal.returns
returns c old new course range run = ends_in_time old new new course range run (stays new new refl)
