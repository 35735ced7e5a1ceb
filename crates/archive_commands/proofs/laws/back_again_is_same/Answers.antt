use Rattle.archive_commands.proofs.Returned.{same_sectors}
use Rattle.archive_commands.proofs.laws.back_again_is_same.Goals as goal

pub returns : goal.returns
returns c = λ disk image file taken made told read is. same_sectors disk image c.args._imd.now file taken made told read is
