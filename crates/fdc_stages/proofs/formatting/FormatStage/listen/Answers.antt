use Rattle.std.proofs.Common.{refl}
use Rattle.fdc_stages.proofs.Turned.{unopened_over}
use Rattle.fdc_stages.proofs.formatting.FormatStage.listen.Goals as goal

pub returns-then-index-clause-hears : goal.returns-then-index-clause-hears
returns-then-index-clause-hears c = λ past numbers handed unopened laid last.
    (unopened_over c.args.index past numbers handed c.args.self.now.stream c.if-index.true unopened laid, refl)
