use Rattle.std.proofs.Common.{arith}
use Rattle.telwyddus_c.proofs.disk.sectors.format.Goals as goal

pub returns : goal.returns
returns c = record {
  out_of_range = λ far. absurd (omega (arith, far));
  within = λ _. record { answer = c.format.result; code_is = c.answer_code.ensures; step = c.format.ensures.step; calm = c.format.ensures.calm };
}
