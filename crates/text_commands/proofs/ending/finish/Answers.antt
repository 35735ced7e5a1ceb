use Rattle.std.proofs.Common.{rules}
use Rattle.text_commands.proofs.Common.{InWhole, AtStore}
use Rattle.text_commands.proofs.ending.finish.Goals as goal

pub returns-in-Ok : goal.returns-in-Ok
returns-in-Ok g c = record {
  does = record { ends = InWhole c.in-Ok.ensures.goes.0 c.whole_status.ensures.value; report = c.in-Ok.ensures.goes.1 };
  is_form = search rules;
  shelf_faults = search rules;
  sink_faults = search rules;
  same = search rules;
}

pub returns-in-Err : goal.returns-in-Err
returns-in-Err g c = record {
  does =
      let left = c.in-Err.ensures.goes in
      record { ends = AtStore left.0 left.1 left.2 left.3; report = left.4 };
  is_form = search rules;
  shelf_faults = search rules;
  sink_faults = search rules;
  same = search rules;
}
