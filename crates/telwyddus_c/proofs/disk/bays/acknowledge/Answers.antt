use Rattle.std.proofs.Common.{arith}
use Rattle.telwyddus_c.proofs.disk.bays.acknowledge.Goals as goal

pub returns : goal.returns
returns c = record {
  out_of_range = λ far. absurd (omega (arith, far));
  within = λ _. record { answer = c.acknowledge.result; code_is = c.answer_code.ensures; step = c.acknowledge.ensures.step; calm = c.acknowledge.ensures.calm };
}
