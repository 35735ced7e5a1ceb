use Rattle.drive_model.proofs.Protection.{protected-stays}
use Rattle.drive_model.proofs.laws.protected_medium_stays.Goals as goal

pub returns : goal.returns
returns c = protected-stays
