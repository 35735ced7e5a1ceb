use Rattle.std.proofs.Common.{◌<◌, length, refl, ◌∙◌, arith}
use Rattle.telwyddus_c.proofs.Common.{length-set}
use Rattle.telwyddus_c.proofs.Copies.{copied_more}
use Rattle.telwyddus_c.proofs.machine.memory.get.Goals as goal

pub loop-i-init : goal.loop-i-init
loop-i-init c = (refl, λ k none. absurd (omega (arith, none)))

pub loop-i-preserved : goal.loop-i-preserved
loop-i-preserved c =
    let inside : c.loop-i.i < length c.loop-i.out = rw c.loop-i.auto.out c.loop-i-test.true in (
      length-set c.loop-i.out c.loop-i.i c.ram.result ∙ c.loop-i.invariant.0,
      copied_more c.loop-i.out _ c.args.address c.loop-i.i c.ram.result inside c.ram.ensures.byte c.loop-i.invariant.1,
    )

pub returns : goal.returns
returns c = record {
  within = omega arith;
  all = c.loop-i.invariant.0;
  each = λ k below. c.loop-i.invariant.1 k (omega (arith, below));
}
