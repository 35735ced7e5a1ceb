use Rattle.std.proofs.Common.{rules, refl}
use Rattle.commands.proofs.run.RunAnyRun.load_text.Goals as goal

pub returns-in-Err : goal.returns-in-Err
returns-in-Err g c = record {
  goes = (
    c.in-Err.error,
    c.in-Err.ensures.gives,
    record { state = refl; files = c.in-Err.ensures.stays; report = c.tell_missing_text.ensures.tells },
  );
  is_form = search rules;
  shelf_faults = search rules;
  sink_faults = search rules;
  same = search rules;
}
