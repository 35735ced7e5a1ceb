use Rattle.std.proofs.Common.{refl, sym, ◌∙◌}
use Rattle.telwyddus_c.proofs.Common.{lists_of, IsPlanned}
use Rattle.telwyddus_c.proofs.EmptyPlans.{none_planned}
use Rattle.telwyddus_c.proofs.Options.{none_in}
use Rattle.telwyddus_c.proofs.controller.making.telwyddus_controller_new_planned.Goals as goal

pub plan_both-requires : goal.plan_both-requires
plan_both-requires c =
    let first = c.new-first.ensures.state ∙ none_planned _ c.new.ensures.items in
    let second = c.new-second.ensures.state ∙ none_planned _ c.new-in-Ok.ensures.items in
    rw first at (rw second at c.in-Ok-new.ensures)

pub returns-in-Ok-new-2 : goal.returns-in-Ok-new-2
returns-in-Ok-new-2 c =
    let made : IsPlanned (lists_of c.in-Ok.plan) c.in-Ok-new-2.controller.value = rw c.in-Ok-new-2.ensures.ok c.plan_both.ensures in (
      (
        none_in c.args.slot.now.held.controller (sym c.is_full.ensures ∙ c.if-is_full.false),
        (_, c.put.ensures, (lists_of c.in-Ok.plan, c.in-Ok.ensures, made)),
      ),
      refl,
    )

pub returns-in_default-new : goal.returns-in_default-new
returns-in_default-new c = ((none_in c.args.slot.now.held.controller (sym c.is_full.ensures ∙ c.if-is_full.false), refl), refl)
