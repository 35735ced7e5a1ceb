use Rattle.std.proofs.Common.{refl, sym, ◌∙◌}
use Rattle.telwyddus_c.proofs.Common.{lists_of}
use Rattle.telwyddus_c.specs.Machines.{IsPlanned}
use Rattle.telwyddus_c.proofs.Options.{none_in}
use Rattle.telwyddus_c.proofs.machine.making.telwyddus_machine_new_planned.Goals as goal

pub returns-in-Ok-new-2 : goal.returns-in-Ok-new-2
returns-in-Ok-new-2 c =
    let made : IsPlanned (lists_of c.in-Ok.plan) c.in-Ok-new-2.machine.value = record {
      pace = c.in-Ok.plan.pace;
      gaps = refl;
      holds = refl;
      strays = refl;
      new = rw c.in-Ok-new-2.ensures.ok (rw c.new-first.ensures.state at (rw c.new-second.ensures.state at c.in-Ok-new.ensures));
    } in (
      (
        none_in c.args.slot.now.held.machine (sym c.is_full.ensures ∙ c.if-is_full.false),
        (_, c.put.ensures, (lists_of c.in-Ok.plan, c.in-Ok.ensures, made)),
      ),
      refl,
    )
