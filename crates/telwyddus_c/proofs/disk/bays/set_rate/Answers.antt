use Rattle.std.proofs.Common.{arith, sym}
use Rattle.telwyddus_c.specs.Disks.{RatesBay}
use Rattle.telwyddus_c.proofs.disk.bays.set_rate.Goals as goal

pub returns-in-Some : goal.returns-in-Some
returns-in-Some c =
    let set : RatesBay c.args.bay c.in-Some.rate c.answer_code.result c.args.desk.now c.set_rate.new.self =
    record { answer = c.set_rate.result; code_is = c.answer_code.ensures; step = c.set_rate.ensures.step; calm = c.set_rate.ensures.calm } in
    record { out_of_range = λ far. absurd (omega (arith, far)); within = λ _. rw (sym c.in-Some.ensures) set }
