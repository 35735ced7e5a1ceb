use Rattle.bios_int13.proofs.Serving.{transfers_ack, transfers_moves, moves_in, verifies_in}
use Rattle.bios_int13.proofs.service.transfer.Goals as goal

pub returns-then-is_changed : goal.returns-then-is_changed
returns-then-is_changed g c = λ told. transfers_ack c.args.kind c.args.bay c.args.first c.args.count c.args.address _ _ _ told _ _
    c.if-is_changed.ensures.value c.is_changed.ensures.same (c.acknowledge_alone.ensures told)

pub returns-in-Verify : goal.returns-in-Verify
returns-in-Verify g c = λ told. transfers_moves c.args.kind c.args.bay c.args.first c.args.count c.args.address _ _ _ told _ _
    c.if-is_changed.ensures.value c.is_changed.ensures.same (verifies_in c.args.kind c.args.bay c.args.first c.args.count c.args.address _ _ told _ _
    c.in-Verify.is (c.verify_records.ensures told))

pub returns-in-Read : goal.returns-in-Read
returns-in-Read g c = λ told. transfers_moves c.args.kind c.args.bay c.args.first c.args.count c.args.address _ _ _ told _ _
    c.if-is_changed.ensures.value c.is_changed.ensures.same (moves_in c.args.kind c.args.address _ _ _ told _ _ c.in-Read.is
    (c.move_records.ensures.moves told))
