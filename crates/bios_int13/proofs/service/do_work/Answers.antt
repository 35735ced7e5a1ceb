use Rattle.bios_int13.proofs.Serving.{work_changed, work_moves}
use Rattle.bios_int13.proofs.service.do_work.Goals as goal

pub returns-in-Changed-clause-does : goal.returns-in-Changed-clause-does
returns-in-Changed-clause-does g c = λ told. work_changed c.args.work c.in-Changed.bay _ _ told c.change_code.result c.in-Changed.is
    c.change_code.ensures.value c.change_code.ensures.same

pub returns-in-Move-clause-does : goal.returns-in-Move-clause-does
returns-in-Move-clause-does g c = λ told. work_moves c.args.work c.in-Move.kind c.in-Move.bay c.in-Move.c c.in-Move.h c.in-Move.r c.in-Move.count
    c.in-Move.address _ _ told _ _ c.in-Move.is (c.transfer.ensures told)
