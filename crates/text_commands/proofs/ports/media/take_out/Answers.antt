use Rattle.std.proofs.Common.{rules}
use Rattle.text_commands.proofs.ports.media.take_out.Goals as goal

pub returns : goal.returns
returns g c = record {
  does = record {
    disk = c.unwrap-medium.result;
    name = c.unwrap-name.result;
    medium = search rules;
    named = search rules;
    takes = search rules;
    files = c.in_ok-store_medium.ensures.ok;
  };
  named = search rules;
  shelf_faults = search rules;
}
