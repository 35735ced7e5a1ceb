use Rattle.std.proofs.Common.{false, sym, subst}
use Rattle.fdc_core.proofs.Common.{StepsNowhere}
use Rattle.fdc_core.proofs.Staying.{executes_left_none, executes_stays_none, executes_flows_none}
use Rattle.fdc_core.proofs.Feeding.{executes_hears_none, rests_follows}
use Rattle.fdc_core.proofs.controller.Fdc.advance_empty.Goals as goal

pub returns-in-Execute-clause-reads : goal.returns-in-Execute-clause-reads
returns-in-Execute-clause-reads c =
    executes_hears_none c.args.self.now c.execute_empty.new.self c.in-Execute.execution c.in-Execute.is c.execute_empty.ensures

pub returns-in-Execute-clause-ends : goal.returns-in-Execute-clause-ends
returns-in-Execute-clause-ends c =
    executes_left_none c.args.self.now c.execute_empty.new.self c.in-Execute.execution c.in-Execute.is c.execute_empty.ensures

pub returns-in-Execute-clause-stays : goal.returns-in-Execute-clause-stays
returns-in-Execute-clause-stays c =
    executes_stays_none c.args.self.now c.execute_empty.new.self c.in-Execute.execution c.in-Execute.is c.execute_empty.ensures

pub returns-in-Execute-clause-flows : goal.returns-in-Execute-clause-flows
returns-in-Execute-clause-flows c =
    executes_flows_none c.args.self.now c.execute_empty.new.self c.in-Execute.execution c.in-Execute.is c.execute_empty.ensures

pub returns-in_default-clause-reads : goal.returns-in_default-clause-reads
returns-in_default-clause-reads c =
    rests_follows false false c.args.self.now c.step_seek.new.self c.step_seek.ensures.state c.in_default.not-Execute

pub returns-in-Execute-clause-nowhere : goal.returns-in-Execute-clause-nowhere
returns-in-Execute-clause-nowhere c =
    subst (λ phase. StepsNowhere phase c.args.self.now c.execute_empty.new.self) (sym c.in-Execute.is) c.execute_empty.ensures
