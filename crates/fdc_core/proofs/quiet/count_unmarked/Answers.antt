use Rattle.std.proofs.Common.{◌≡◌, arith, length, refl, subst, take}
use Rattle.fdc_core.proofs.Common.{MarksNothing}
use Rattle.fdc_core.proofs.Quieting.{reads_next, reads_nothing}
use Rattle.fdc_core.proofs.Foreseeing.{marks_by}
use Rattle.fdc_core.proofs.quiet.count_unmarked.Goals as goal

pub loop-i-init : goal.loop-i-init
loop-i-init c = reads_nothing c.args.reading.wanted.key c.args.reading.stage

pub loop-i-preserved : goal.loop-i-preserved
loop-i-preserved c =
    let is = c.if-not-is_unmarked.false in
    reads_next c.args.reading.wanted.key c.args.words.now c.loop-i.i _ c.args.reading.stage c.loop-i.stage c.hear-heard.new.self c.loop-i-test.true refl c.loop-i.invariant
    c.hear-heard.result (c.is_unmarked.ensures.goes_on is) c.hear-heard.ensures.hears (c.is_unmarked.ensures.unmarked is)

pub returns-then-not-is_unmarked-clause-marks : goal.returns-then-not-is_unmarked-clause-marks
returns-then-not-is_unmarked-clause-marks c past was = (c.loop-i.stage, c.loop-i.invariant past was)

pub returns-then-not-is_unmarked-clause-longest : goal.returns-then-not-is_unmarked-clause-longest
returns-then-not-is_unmarked-clause-longest c more =
    marks_by c.args.reading.wanted.key c.args.words.now c.loop-i.i _ c.args.reading.stage c.loop-i.stage c.hear-heard.new.self c.hear-heard.result c.loop-i-test.true refl c.loop-i.invariant
    c.hear-heard.ensures.hears c.hear-heard.ensures.well c.hear-heard.ensures.mark (c.is_unmarked.ensures.over c.if-not-is_unmarked.true)

pub returns-clause-marks : goal.returns-clause-marks
returns-clause-marks c =
    let words = c.args.words.now in
    let all : c.loop-i.i ≡ length words = omega arith in
    subst (λ count. MarksNothing c.args.reading.wanted.key (take count words) c.args.reading.stage) all (λ past was. (c.loop-i.stage, c.loop-i.invariant past was))
