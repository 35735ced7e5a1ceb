use Rattle.std.proofs.Common.{refl, sym, ◌∙◌}
use Rattle.telwyddus_c.proofs.EmptyPlans.{none_planned}
use Rattle.telwyddus_c.proofs.Options.{none_in}
use Rattle.telwyddus_c.proofs.controller.making.telwyddus_controller_new.Goals as goal

pub returns : goal.returns
returns c =
    let first = c.new-first.ensures.state ∙ none_planned _ c.new.ensures.items in
    let second = c.new-second.ensures.state ∙ none_planned _ c.new-2.ensures.items in (
      none_in c.args.slot.now.held.controller (sym c.is_full.ensures ∙ c.if-is_full.false),
      (_, c.put.ensures, rw c.in-Ok-new.ensures.ok (rw first at (rw second at c.in-Ok.ensures))),
    )

pub returns-in_default-new : goal.returns-in_default-new
returns-in_default-new c = (none_in c.args.slot.now.held.controller (sym c.is_full.ensures ∙ c.if-is_full.false), refl)
