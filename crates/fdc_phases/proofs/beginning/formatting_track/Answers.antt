use Rattle.std.proofs.Common.{arith}
use Rattle.std.proofs.Common.{refl, inl, [], false}
use Rattle.fdc_phases.proofs.AtFirst.{rule_room}
use Rattle.fdc_phases.proofs.beginning.formatting_track.Goals as goal

pub returns-clause-is : goal.returns-clause-is
returns-clause-is c = λ head_drive fifo asking none. (
  rule_room false asking fifo,
  (
    [],
    record { sent_is = refl; counted_is = refl; steps_are = refl; fresh = λ _. refl; formats = c.new.ensures.begins; handed_is = inl none },
  ),
)

pub returns-clause-waits : goal.returns-clause-waits
returns-clause-waits c = λ fifo none on counted. (162, c.new.ensures.lead, omega arith)
