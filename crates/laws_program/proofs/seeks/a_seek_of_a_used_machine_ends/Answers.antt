use Rattle.laws_program.proofs.Fits.{used_seek_ends, used_seek_in_time, used_recalibrate}
use Rattle.laws_program.proofs.seeks.a_seek_of_a_used_machine_ends.Goals as goal

pub returns-clause-ends : goal.returns-clause-ends
returns-clause-ends c = used_seek_ends

pub returns-clause-in_time : goal.returns-clause-in_time
returns-clause-in_time c = used_seek_in_time

pub returns-clause-recalibrates : goal.returns-clause-recalibrates
returns-clause-recalibrates c = used_recalibrate
