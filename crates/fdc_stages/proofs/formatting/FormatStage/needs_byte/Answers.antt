use Rattle.fdc_stages.proofs.Leading.{none_before}
use Rattle.fdc_stages.proofs.formatting.FormatStage.needs_byte.Goals as goal

pub returns-in-Lay-clause-lead : goal.returns-in-Lay-clause-lead
returns-in-Lay-clause-lead c = λ lead leads is.
    none_before c.args.self.now.stream c.needs_byte.result lead is c.needs_byte.ensures leads
