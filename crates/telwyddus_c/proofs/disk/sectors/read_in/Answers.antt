use Rattle.std.proofs.Common.{arith}
use Rattle.telwyddus_c.proofs.disk.sectors.read_in.Goals as goal

pub returns : goal.returns
returns c = record { out_of_range = λ far. absurd (omega (arith, far)); within = λ _. c.read_at.ensures }
