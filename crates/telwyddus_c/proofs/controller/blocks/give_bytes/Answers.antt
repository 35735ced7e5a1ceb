use Rattle.std.proofs.Common.{◌≡◌, length, refl, arith}
use Rattle.telwyddus_c.proofs.Channel.{keeps_none, keeps_more, gives_none, gives_on, gives_short, gives_full}
use Rattle.telwyddus_c.proofs.controller.blocks.give_bytes.Goals as goal

pub loop-i-init : goal.loop-i-init
loop-i-init c = (gives_none _ _, keeps_none _)

pub loop-i-preserved : goal.loop-i-preserved
loop-i-preserved c = (
  gives_on c.loop-i.i _ _ _ _ c.loop-i.invariant.0 c.if-not-dack_write.ensures.gives,
  keeps_more _ _ _ c.loop-i.invariant.1 c.if-not-dack_write.ensures.drives,
)

pub returns-then-not-dack_write : goal.returns-then-not-dack_write
returns-then-not-dack_write c = (
  gives_short c.loop-i.i _ _ _ _ c.loop-i-test.true c.loop-i.invariant.0 c.if-not-dack_write.ensures.gives,
  keeps_more _ _ _ c.loop-i.invariant.1 c.if-not-dack_write.ensures.drives,
)

pub returns : goal.returns
returns c =
    let all : c.loop-i.i ≡ length c.args.bytes.now = omega arith in
    (gives_full _ _ _ _ refl (rw all at c.loop-i.invariant.0), c.loop-i.invariant.1)
