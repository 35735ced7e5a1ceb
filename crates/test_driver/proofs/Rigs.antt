-- What commands make of the rig.
use Rattle.std.proofs.Common.{Option, Some, None, IfSome, refl}
use Rattle.std.specs.Option.{ForSome}

pub if_some : {T : Type 0} (o : Option T) (P : T → Type 0) → ForSome o P → IfSome o P
if_some None P each = tt
if_some (Some x) P each = each x refl
