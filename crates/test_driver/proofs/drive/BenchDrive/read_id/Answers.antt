use Rattle.std.proofs.Common.{ℕ, List, subst, arith}
use Rattle.test_driver.proofs.Common.{IsAddressAt}
use Rattle.test_driver.proofs.drive.BenchDrive.read_id.Goals as goal

pub returns : goal.returns
returns c = λ p key address.
    let On : List ℕ → Type 0 = λ words. IsAddressAt words p key in
    let found = c.in_ok-fields.ensures.all (record { place = p; key = key }) (subst On c.in-Some.ensures.met_is address) in
    let some = found.1 in
    absurd (omega (arith, c.len.ensures, c.if-len-gt0.false))
