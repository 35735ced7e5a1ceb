-- What a test for a value says.
use Rattle.std.proofs.Common.{◌≡◌, refl, sym, false}
use Rattle.std.specs.Prelude.{Option, Some, None}
use Rattle.telwyddus_c.proofs.Common.{is_some}
use mathlib.Core.Bool.{false≢true}

pub none_in : {A : Type 0} (o : Option A) → is_some o ≡ false → o ≡ None
none_in None e = refl
none_in (Some x) e = absurd (false≢true (sym e))
