use Rattle.bios_int13.proofs.Serving.{acks_done}
use Rattle.bios_int13.proofs.service.acknowledge_alone.Goals as goal

pub returns : goal.returns
returns g c = λ told. acks_done c.args.bay _ _ told c.acknowledge.result c.ack_code.result (c.acknowledge.ensures.step told)
    (c.acknowledge.ensures.answers c.requires) c.ack_code.ensures
