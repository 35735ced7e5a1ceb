use Rattle.std.proofs.Common.{refl}
use Rattle.fdc_core.proofs.AddressHeard.{hears_all, hears_next}
use Rattle.fdc_core.proofs.fields.stage_behind.Goals as goal

pub loop-word-init : goal.loop-word-init
loop-word-init c = c.new-stage.ensures c.args.key

pub loop-word-preserved : goal.loop-word-preserved
loop-word-preserved c =
    hears_next c.args.key c.args.words.now c.loop-word.word-index _ c.loop-word.stage c.hear.new.self c.hear.result c.requires.few c.loop-word-test.true refl c.loop-word.invariant c.hear.ensures.hears
    c.hear.ensures.well

pub returns : goal.returns
returns c = hears_all c.args.key c.args.words.now c.loop-word.word-index c.loop-word.stage c.loop-word-test.false c.loop-word.invariant
