use Rattle.laws_chip.proofs.UsedWaits.{few_unpaced, used_given}
use Rattle.laws_chip.proofs.waiting.a_held_command_waits_for_heads.Goals as goal

pub returns-clause-given : goal.returns-clause-given
returns-clause-given c = used_given

pub returns-clause-few : goal.returns-clause-few
returns-clause-few c = few_unpaced
