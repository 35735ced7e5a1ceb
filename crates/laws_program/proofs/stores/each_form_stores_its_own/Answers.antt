use Rattle.laws_program.proofs.RescueStatus.{each_form_stores}
use Rattle.laws_program.proofs.stores.each_form_stores_its_own.Goals as goal

pub returns : goal.returns
returns c = each_form_stores
