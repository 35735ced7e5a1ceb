use Rattle.laws_program.proofs.SeekOrData.{goes_apart}
use Rattle.laws_program.proofs.Fits.{used_apart, idle_apart}
use Rattle.laws_program.proofs.seeks.seeks_and_data_commands_stay_apart.Goals as goal

pub returns-clause-used : goal.returns-clause-used
returns-clause-used c = used_apart

pub returns-clause-set_up : goal.returns-clause-set_up
returns-clause-set_up c = idle_apart

pub returns-clause-goes : goal.returns-clause-goes
returns-clause-goes c = goes_apart
