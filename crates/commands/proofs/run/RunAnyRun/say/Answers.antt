use Rattle.std.proofs.Common.{rules, ◌∷◌, []}
use Rattle.commands.proofs.Running.{said, put_whole}
use Rattle.commands.proofs.run.RunAnyRun.say.Goals as goal

pub returns-clause-ran : goal.returns-clause-ran
returns-clause-ran g c = record {
  goes = λ text made. said text _ _ _ _ c.put_line.result (c.put_line.ensures.ok text made) (c.put_line.ensures.err text made) c.put_line.ensures.only;
  is_form = search rules;
  shelf_faults = search rules;
  sink_faults = search rules;
  same = search rules;
}

pub returns-clause-puts : goal.returns-clause-puts
returns-clause-puts g c = λ text made.
    put_whole (text ∷ []) _ _ _ _ c.put_line.result (c.put_line.ensures.ok text made) (c.put_line.ensures.err text made) c.put_line.ensures.only
