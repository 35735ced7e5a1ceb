use Rattle.std.proofs.Common.{subst, refl, true}
use Rattle.fdc_stages.proofs.Common.{wrote, HasWholeTurn}
use Rattle.fdc_stages.proofs.Laying.{StreamIsWhole}
use Rattle.fdc_stages.proofs.Turned.{too_short, whole_turn, turn_begun, result_is_last}
use Rattle.fdc_stages.proofs.formatting.FormatStage.end_at_index.Goals as goal

pub returns-then-not-is_whole-clause-goes_on : goal.returns-then-not-is_whole-clause-goes_on
returns-then-not-is_whole-clause-goes_on c = λ past numbers handed word was.
    let now = c.args.self.now in
    let whole : StreamIsWhole now.stream _ = c.is_whole.ensures in
    (too_short true word past numbers handed now.stream now.key refl (subst (StreamIsWhole now.stream) c.if-not-is_whole.true whole) was, refl)

pub returns-clause-goes_on : goal.returns-clause-goes_on
returns-clause-goes_on c = λ past numbers handed word was.
    let now = c.args.self.now in
    let whole : StreamIsWhole now.stream _ = c.is_whole.ensures in
    let later = wrote true word past in
    let turn : HasWholeTurn later numbers handed = whole_turn true word past numbers handed now.stream now.key refl (subst (StreamIsWhole now.stream) c.if-not-is_whole.false whole) was in
    (record { begun = turn_begun true word past numbers handed now.stream now.key was; cause = (refl, turn) }, result_is_last later numbers handed now.key turn was.2)
