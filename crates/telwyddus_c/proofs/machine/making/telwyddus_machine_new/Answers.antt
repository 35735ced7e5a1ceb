use Rattle.std.proofs.Common.{sym, ◌∙◌}
use Rattle.telwyddus_c.proofs.EmptyPlans.{none_at_rest}
use Rattle.telwyddus_c.proofs.Options.{none_in}
use Rattle.telwyddus_c.proofs.machine.making.telwyddus_machine_new.Goals as goal

pub returns : goal.returns
returns c =
    let first = c.new-first.ensures.state ∙ none_at_rest _ c.new-4.ensures.items in
    let second = c.new-second.ensures.state ∙ none_at_rest _ c.new-5.ensures.items in (
      none_in c.args.slot.now.held.machine (sym c.is_full.ensures ∙ c.if-is_full.false),
      (
        _,
        c.put.ensures,
        record {
          pace = record { gaps = c.new.result; holds = c.new-2.result; strays = c.new-3.result };
          gaps = c.new.ensures.items;
          holds = c.new-2.ensures.items;
          strays = c.new-3.ensures.items;
          new = rw c.in-Ok-new.ensures.ok (rw first at (rw second at c.in-Ok.ensures));
        },
      ),
    )
