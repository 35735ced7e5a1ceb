use Rattle.fdc_core.proofs.Taking.{takes_none, takes_space, takes_more}
use Rattle.fdc_core.proofs.contents.take_bytes.Goals as goal

pub loop-i-init : goal.loop-i-init
loop-i-init c = takes_none c.args.words.now c.args.counted c.args.stage.now c.args.fifo.now

pub take_byte-requires : goal.take_byte-requires
take_byte-requires c = record {
  space = takes_space c.args.words.now c.loop-i.i c.loop-i-test.true c.args.counted c.args.stage.now c.loop-i.stage c.args.fifo.now c.loop-i.fifo c.loop-i.invariant c.requires.space;
}

pub loop-i-preserved : goal.loop-i-preserved
loop-i-preserved c =
    takes_more c.args.words.now c.loop-i.i c.loop-i-test.true c.args.counted c.args.stage.now c.loop-i.stage c.args.fifo.now c.loop-i.fifo c.loop-i.invariant c.take_byte.new.stage c.take_byte.new.fifo
    (c.take_byte.ensures.taken c.if-not-take_byte.false)
