use Rattle.std.proofs.Common.{arith}
use Rattle.fdc_stages.specs.Writings.{lead_of}
use Rattle.fdc_phases.proofs.AtFirst.{empty_lead}
use Rattle.std.proofs.Common.{refl, inl, [], false}
use Rattle.fdc_phases.proofs.AtFirst.{rule_room}
use Rattle.fdc_phases.proofs.beginning.writing_data.Goals as goal

pub returns-clause-is : goal.returns-clause-is
returns-clause-is c = λ head_drive fifo asking none. (
  rule_room false asking fifo,
  (
    [],
    record {
      sent_is = refl;
      deleted_is = refl;
      counted_is = refl;
      steps_are = refl;
      fresh = λ _. refl;
      writes = c.new.ensures.begins c.args.key c.args.deleted;
      handed_is = inl none;
    },
  ),
)

pub returns-clause-waits : goal.returns-clause-waits
returns-clause-waits c = λ fifo none on counted. empty_lead (lead_of c.new.result) 39 fifo c.new.ensures.lead (omega arith)
