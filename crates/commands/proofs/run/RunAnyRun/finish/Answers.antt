use Rattle.std.proofs.Common.{rules, refl, ◌∷◌, []}
use Rattle.commands.proofs.Running.{ends_here}
use Rattle.commands.proofs.run.RunAnyRun.finish.Goals as goal

pub returns-clause-ran : goal.returns-clause-ran
returns-clause-ran g c = record {
  does = λ text made whole start leads.
      ends_here whole start (text ∷ []) c.args.status _ _ _ _ c.put_last_line.result (c.put_last_line.ensures.prints text made) leads;
  is_form = search rules;
  shelf_faults = search rules;
  sink_faults = search rules;
  same = search rules;
}

pub returns-clause-tells : goal.returns-clause-tells
returns-clause-tells g c = λ text made. record { state = refl; files = refl; prints = c.put_last_line.ensures.prints text made }
