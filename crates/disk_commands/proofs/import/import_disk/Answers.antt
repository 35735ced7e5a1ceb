use Rattle.std.proofs.Common.{rules}
use Rattle.disk_commands.proofs.FlatRuns.{imported_flat}
use Rattle.disk_commands.proofs.import.import_disk.Goals as goal

pub returns-in-Ok-make_disk : goal.returns-in-Ok-make_disk
returns-in-Ok-make_disk g c = record {
  does = imported_flat _ _ c.deref.result.now c.in-Ok.loaded.rate _ _ _ _ c.in-Ok.ensures.stays
      (rw c.deref.ensures.value c.in-Ok.ensures.flat) (search rules);
  is_form = search rules;
  shelf_faults = search rules;
  sink_faults = search rules;
  same = search rules;
}

pub returns-in-Ok : goal.returns-in-Ok
returns-in-Ok g c = record {
  does = imported_flat _ _ c.deref.result.now c.in-Ok.loaded.rate _ _ _ _ c.in-Ok.ensures.stays
      (rw c.deref.ensures.value c.in-Ok.ensures.flat) (search rules);
  is_form = search rules;
  shelf_faults = search rules;
  sink_faults = search rules;
  same = search rules;
}
