use Rattle.std.proofs.Common.{refl, inl}
use Rattle.test_driver.proofs.drive.BenchDrive.find_field.Goals as goal

pub returns-in_default : goal.returns-in_default
returns-in_default c = record { none = λ p address. c.in_default.ensures.addresses p _ address; by_code = inl (refl, c.in_default.ensures.marks) }
