-- Written by tools/slots. Change proofs/controller/held/Held/TheSendSync/Send.antt, of which this is a copy.
-- A holder may cross threads, as what it owns may.
use denote.Struct.Struct.{exits_of}
use denote.Struct.Owning.{shape, fields, to}
use denote.Param.Send.{IsSend, AllSend, owning_send, struct_send, sendable}
use Rattle.std.proofs.alloc.Global.TheSendSync as handle
use Rattle.c_slots.proofs.Crossing.{quiet, keyless}
use Rattle.c_slots.proofs.Rows.{shelf_send}
use Rattle.c_slots.proofs.Common.{shelf_row}
use Rattle.c_slots.specs.contracts.shelf.held.Held.{the_row, the_type}

pub send : IsSend the_row
send =
    let all : AllSend (fields the_type) = (search sendable, (handle.the_field_send, tt)) in
    owning_send the_type all (λ d. keyless shelf_row shelf_send d.alloc d.at d.shelf)
    (λ k. quiet (to the_type) (exits_of k (fields the_type)) ((struct_send (shape the_type) all).leaving k))
