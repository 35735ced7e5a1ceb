use Rattle.fdc_core.proofs.Feeding.{low_waits}
use Rattle.fdc_core.proofs.laws.quiet_request_waits.Goals as goal

pub returns : goal.returns
returns c = low_waits
