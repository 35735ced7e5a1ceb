use Rattle.sector_model.proofs.JobTimes.{course_within, play_costs, run_costs}
use Rattle.sector_model.proofs.laws.a_run_lasts.Goals as goal

pub returns-clause-run : goal.returns-clause-run
returns-clause-run c old new told after course run = (run_costs old new told after course run).0

pub returns-clause-play : goal.returns-clause-play
returns-clause-play c old new job course ended plays = (play_costs old new job course ended plays).0

pub returns-clause-within : goal.returns-clause-within
returns-clause-within c = course_within
