use Rattle.bios_int13.proofs.Serving.{as_write, write_moves}
use Rattle.bios_int13.proofs.service.move_record.Goals as goal

pub returns-in-Write-clause-moves : goal.returns-in-Write-clause-moves
returns-in-Write-clause-moves g c = λ told. as_write c.args.kind c.args.bay c.args.key c.args.address _ _ told c.write_record.result c.in-Write.is
    (write_moves c.args.bay c.args.key c.args.address _ _ told c.write_record.result (c.write_record.ensures told))
