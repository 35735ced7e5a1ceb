use Rattle.std.proofs.Common.{sym, subst}
use Rattle.telwyddus_c.proofs.Common.{ControllerValue, IsRefilled, medium_in}
use Rattle.telwyddus_c.proofs.Bared.{alike_joined, first_alike, refilled_both, second_alike}
use Rattle.telwyddus_c.proofs.bare.refill.Goals as goal

pub move_medium-requires-clause-alike : goal.move_medium-requires-clause-alike
move_medium-requires-clause-alike c =
    first_alike c.args.controller.now c.join_all_writes.new.to
    (alike_joined c.args.controller.now c.args.state.now c.join_all_writes.new.to c.join_all_writes.ensures (sym c.if-not-are_alike.ensures))

pub move_medium-requires-2-clause-alike : goal.move_medium-requires-2-clause-alike
move_medium-requires-2-clause-alike c =
    second_alike c.args.controller.now c.move_medium.new.from c.join_all_writes.new.to c.move_medium.new.to (medium_in c.args.controller.now 0)
    (alike_joined c.args.controller.now c.args.state.now c.join_all_writes.new.to c.join_all_writes.ensures (sym c.if-not-are_alike.ensures))
    c.move_medium.ensures.other c.move_medium.ensures.moved

pub returns-clause-refilled : goal.returns-clause-refilled
returns-clause-refilled c =
    subst (λ (it : ControllerValue). IsRefilled c.args.controller.now c.args.state.now it) (sym c.swap.ensures.x_after)
    (refilled_both c.args.controller.now c.move_medium.new.from c.args.state.now c.join_all_writes.new.to c.move_medium.new.to c.move_medium-2.new.to
    c.join_all_writes.ensures c.move_medium.ensures.other c.move_medium.ensures.moved c.move_medium-2.ensures.moved)
