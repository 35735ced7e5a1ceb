use Rattle.std.proofs.Common.{refl}
use Rattle.fdc_stages.proofs.Laying.{fresh_laid}
use Rattle.fdc_stages.proofs.Leading.{fresh_leads}
use Rattle.fdc_stages.proofs.formatting.FormatStage.new.Goals as goal

pub returns-clause-begins : goal.returns-clause-begins
returns-clause-begins c =
    ((refl, refl), fresh_laid (record { n = c.args.n; sectors = c.args.sectors; gap3 = c.args.gap3; fill = c.args.fill }) c.new.result c.new.ensures, refl)

pub returns-clause-lead : goal.returns-clause-lead
returns-clause-lead c =
    fresh_leads (record { n = c.args.n; sectors = c.args.sectors; gap3 = c.args.gap3; fill = c.args.fill }) c.new.result c.new.ensures
