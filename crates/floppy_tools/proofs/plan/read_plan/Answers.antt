use Rattle.floppy_tools.proofs.Common.{Unloaded}
use Rattle.floppy_tools.proofs.Unplanned.{ends_unread}
use Rattle.floppy_tools.proofs.plan.read_plan.Goals as goal

pub returns-in-Err-clause-ended : goal.returns-in-Err-clause-ended
returns-in-Err-clause-ended g c = Unloaded c.in-Err.error c.in-Err.ensures.gives c.not_loaded.ensures.tells

pub returns-clause-ended : goal.returns-clause-ended
returns-clause-ended g c =
    ends_unread (g.S.Shelf.told c.args.shelf.now) c.args.name.now c.deref.result.now c.in-Ok.text c.plan_of.result c.in-Err-plan_of.error (g.K.Sink.told c.args.out.now) (g.K.Sink.told c.not_read.new.out) c.not_read.result c.deref.ensures.value c.in-Err-plan_of.is c.in-Ok.ensures.gives c.plan_of.ensures c.not_read.ensures.tells
