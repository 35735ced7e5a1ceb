use Rattle.fdc_phases.proofs.AtFirst.{empty_room}
use Rattle.std.proofs.Common.{refl, []}
use Rattle.std.proofs.lemmas.Bool.{false≢true}
use Rattle.fdc_phases.proofs.beginning.reading_data.Goals as goal

pub returns-clause-is : goal.returns-clause-is
returns-clause-is c = λ head_drive. (
  λ up. absurd (false≢true up),
  (
    [],
    record {
      sent_is = refl;
      counted_is = refl;
      steps_are = refl;
      heard_are = refl;
      reads = c.new.ensures c.args.key;
      bytes_are = refl;
    },
  ),
)

pub returns-clause-waits : goal.returns-clause-waits
returns-clause-waits c = λ fifo none on counted. empty_room fifo none on
