-- Numbers of cylinders.
use Rattle.std.proofs.Common.{◌≡◌, ◌≤◌, ℕ, Bool, true, false, List, Option, Some, None, refl, arith, if◌then◌else◌}
use Rattle.std.proofs.lemmas.Bool.Decides.{nat_tests}
use Rattle.floppy_jobs.specs.Numbers.{number_of}

abbrev kept : Bool → ℕ → Option ℕ
kept b v = if b then Some v else None

kept_is : (b : Bool) (v n : ℕ) → kept b v ≡ Some n → (b ≡ true) × (v ≡ n)
kept_is true v n e = (refl, cc)
kept_is false v n e = absurd cc

-- a number that a word spells is within its bounds
pub number_least : (base fewest most least greatest : ℕ) (word : List ℕ) (n : ℕ)
    → number_of base fewest most least greatest word ≡ Some n → least ≤ n
unfolding number_of
number_least base fewest most least greatest word n e =
    let p = kept_is _ _ n e in
    grind (arith, nat_tests, p.0, p.1)
