use Rattle.std.proofs.Common.{◌≡◌, ◌<◌, length, refl, arith}
use Rattle.telwyddus_c.proofs.Channel.{keeps_none, keeps_more, takes_none, takes_on, takes_short, takes_full}
use Rattle.telwyddus_c.proofs.controller.blocks.take_bytes.Goals as goal

pub loop-i-init : goal.loop-i-init
loop-i-init c = (takes_none _ _, keeps_none _)

pub loop-i-preserved : goal.loop-i-preserved
loop-i-preserved c =
    let inside : c.loop-i.i < length c.loop-i.out = rw c.loop-i.auto.out c.loop-i-test.true in (
      takes_on c.loop-i.i _ _ c.loop-i.out _ _ _ inside c.loop-i.invariant.0 c.in-Some.ensures.takes,
      keeps_more _ _ _ c.loop-i.invariant.1 c.in-Some.ensures.drives,
    )

pub returns-in-None : goal.returns-in-None
returns-in-None c = (
  takes_short c.loop-i.i _ _ _ _ _ c.loop-i-test.true c.loop-i.invariant.0 c.in-None.ensures.takes,
  keeps_more _ _ _ c.loop-i.invariant.1 c.in-None.ensures.drives,
)

pub returns : goal.returns
returns c =
    let all : c.loop-i.i ≡ length c.args.out.now = omega arith in
    let same : length c.loop-i.out ≡ length c.args.out.now = c.loop-i.invariant.0.all in (
      rw same (takes_full _ _ _ _ _ refl (rw all at c.loop-i.invariant.0)),
      c.loop-i.invariant.1,
    )
