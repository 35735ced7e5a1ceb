use Rattle.std.proofs.Common.{rules}
use Rattle.disk_commands.proofs.RescueOpening.{opened_on}
use Rattle.disk_commands.proofs.rescuing.rescue_disk.Goals as goal

pub returns-in-Ok : goal.returns-in-Ok
returns-in-Ok g c = record {
  does = opened_on c.args.from c.args.to c.args.log c.in-Ok.shape _ _ _ _ c.in-Ok.ensures.ran.goes c.in-Ok.ensures.files c.rescue_opened.ensures.does;
  is_form = search rules;
  shelf_faults = search rules;
  sink_faults = search rules;
  same = search rules;
}
