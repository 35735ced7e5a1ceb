use Rattle.laws_commands.proofs.SectorRequests.{formatted_readable}
use Rattle.laws_commands.proofs.format_ends.formatted_disk_is_readable.Goals as goal

pub returns : goal.returns
returns c disk = formatted_readable c.args._rate c.args._cylinders disk
