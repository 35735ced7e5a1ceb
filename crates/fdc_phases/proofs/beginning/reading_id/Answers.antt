use Rattle.std.proofs.Common.{refl, None}
use Rattle.fdc_phases.proofs.beginning.reading_id.Goals as goal

pub returns-clause-is : goal.returns-clause-is
returns-clause-is c = λ head_drive. record { sent_is = refl; steps_are = refl; heard_are = refl; searches = c.new.ensures None }

pub returns-clause-waits : goal.returns-clause-waits
returns-clause-waits c = λ fifo none on. tt
