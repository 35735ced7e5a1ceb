use Rattle.std.proofs.Common.{◌∙◌}
use Rattle.imagedisk.proofs.Windowed.{pushed, pushed_all}
use Rattle.imagedisk.proofs.windows.push_cells.Goals as goal

pub loop-byte-preserved : goal.loop-byte-preserved
loop-byte-preserved c =
    pushed c.loop-byte.words.items c.push.new.self.items c.args.bytes.now c.loop-byte.after c.loop-byte.byte-index c.encode_byte.result c.loop-byte-test.true c.in_ok-push.ensures.items c.encode_byte.ensures
    ∙ c.loop-byte.invariant

pub returns : goal.returns
returns c = pushed_all c.loop-byte.words.items c.args.words.now.items c.args.bytes.now c.args.last c.loop-byte.after c.loop-byte.byte-index c.loop-byte-test.false c.loop-byte.invariant
