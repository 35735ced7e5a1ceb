use Rattle.laws_machine.proofs.OnSteps.SeekEnds.{seek_ends, most_left, recalibrate_left}
use Rattle.laws_machine.proofs.laws.onsteps.a_seek_ends.Goals as goal

pub returns-clause-ends : goal.returns-clause-ends
returns-clause-ends c = seek_ends

pub returns-clause-most : goal.returns-clause-most
returns-clause-most c = most_left

pub returns-clause-recalibrates : goal.returns-clause-recalibrates
returns-clause-recalibrates c = recalibrate_left
