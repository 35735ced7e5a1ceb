use Rattle.std.proofs.Common.{rules, refl, ap}
use Rattle.commands.proofs.Common.{IsStored, NotStored, with_report}
use Rattle.commands.proofs.Running.{stores_here}
use Rattle.commands.proofs.run.RunAnyRun.store_last.Goals as goal

pub returns-in-Ok : goal.returns-in-Ok
returns-in-Ok g c = record {
  does = λ text made whole start leads.
      stores_here whole start _ _ text c.args.status _ _ _ (IsStored refl c.in-Ok.ensures.ok (c.put_last_line.ensures.prints text made)) leads;
  is_form = search rules;
  shelf_faults = search rules;
  sink_faults = search rules;
  same = search rules;
}

pub returns-in-Err-Failed : goal.returns-in-Err-Failed
returns-in-Err-Failed g c = record {
  does = λ text made whole start leads.
      stores_here whole start _ _ text c.args.status _ _ _
      (NotStored (ap (λ files. with_report c.args.self.now.session.now files (g.K.Sink.told c.args.self.now.out.now)) c.in-Err-Failed.ensures.err) tt) leads;
  is_form = search rules;
  shelf_faults = search rules;
  sink_faults = search rules;
  same = search rules;
}

pub returns : goal.returns
returns g c = record {
  does = λ text made whole start leads.
      stores_here whole start _ _ text c.args.status _ _ _
      (NotStored (ap (λ files. with_report c.args.self.now.session.now files (g.K.Sink.told c.args.self.now.out.now)) c.in-Err-NoMemory.ensures.err) tt) leads;
  is_form = search rules;
  shelf_faults = search rules;
  sink_faults = search rules;
  same = search rules;
}
