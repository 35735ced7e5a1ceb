-- What a test for a value says.
use Rattle.std.proofs.Common.{◌≡◌, refl, true}
use Rattle.std.specs.Prelude.{Option, Some, None}
use Rattle.std.specs.Option.{is_some}
use mathlib.Core.Bool.{false≢true}

pub some_in : {A : Type 0} (o : Option A) → is_some o ≡ true → (x : A) × (o ≡ Some x)
some_in None e = absurd (false≢true e)
some_in (Some x) e = (x, refl)
