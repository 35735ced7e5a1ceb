use Rattle.fdc_stages.proofs.Leading.{one_fewer}
use Rattle.fdc_stages.proofs.Turned.{write_laid}
use Rattle.fdc_stages.proofs.formatting.FormatStage.lay.Goals as goal

pub returns-clause-writes : goal.returns-clause-writes
returns-clause-writes c = λ past numbers handed takes due was is.
    write_laid past numbers handed c.args.self.now c.next.new.self c.key_behind-key.result c.args.byte c.next.result takes c.needs_byte.result due was is c.needs_byte.ensures c.next.ensures (c.key_behind-key.ensures handed)

pub returns-clause-lead : goal.returns-clause-lead
returns-clause-lead c = λ lead leads.
    one_fewer c.args.self.now.stream c.next.new.self c.args.byte c.next.result c.needs_byte.result lead c.next.ensures c.needs_byte.ensures leads
