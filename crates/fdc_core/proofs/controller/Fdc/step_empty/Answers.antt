use Rattle.std.proofs.Common.{false, subst}
use Rattle.fdc_core.proofs.Common.{ListensToNone, StepsNowhere}
use Rattle.fdc_core.proofs.Feeding.{polled_follows}
use Rattle.fdc_core.proofs.Staying.{polled_stays}
use Rattle.fdc_core.proofs.controller.Fdc.step_empty.Goals as goal

pub returns-clause-reads : goal.returns-clause-reads
returns-clause-reads c =
    subst (λ polls. ListensToNone polls c.args.self.now c.advance_empty.new.self) c.poll.ensures.state (polled_follows false 0 c.args.self.now c.poll.new.self c.advance_empty.new.self c.poll.ensures.state c.advance_empty.ensures.reads)

pub returns-clause-nowhere : goal.returns-clause-nowhere
returns-clause-nowhere c =
    subst (λ polls. StepsNowhere c.args.self.now.phase polls c.advance_empty.new.self) c.poll.ensures.state
    (subst (λ phase. StepsNowhere phase c.poll.new.self c.advance_empty.new.self) c.poll.ensures.phase c.advance_empty.ensures.nowhere)

pub returns-clause-stays : goal.returns-clause-stays
returns-clause-stays c = polled_stays c.args.self.now c.poll.new.self c.advance_empty.new.self c.poll.ensures.state c.advance_empty.ensures.stays
