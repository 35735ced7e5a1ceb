use Rattle.bios_int13.proofs.Serving.{read_done}
use Rattle.bios_int13.proofs.service.read_any.Goals as goal

pub returns-in-Ok-clause-moves : goal.returns-in-Ok-clause-moves
returns-in-Ok-clause-moves g c = λ told. read_done c.args.bay c.args.key c.args.address _ _ told c.in-Ok.field-0 (c.in-Ok.ensures.step told)
