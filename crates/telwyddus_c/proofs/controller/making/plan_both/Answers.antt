use Rattle.telwyddus_c.proofs.Common.{lists_of}
use Rattle.telwyddus_c.proofs.Planned.{planned_both}
use Rattle.telwyddus_c.proofs.controller.making.plan_both.Goals as goal

pub returns : goal.returns
returns c =
    planned_both (lists_of c.args.plan) c.args.controller.now c.replan.new.controller c.replan-2.new.controller c.requires c.replan.ensures c.replan-2.ensures
