use Rattle.std.proofs.Common.{rules, refl}
use Rattle.floppy_tools.proofs.FormRuns.{asked_runs, ran_asked, runs_none, starved_runs, none_asked}
use Rattle.floppy_tools.proofs.forms.run_asked.Goals as goal

pub returns-in-Ok-Some-clause-runs : goal.returns-in-Ok-Some-clause-runs
returns-in-Ok-Some-clause-runs g c =
    asked_runs c.args.asked c.in-Ok-Some.field-0 _ _ c.perform_form.result c.in-Ok-Some.is
    (ran_asked c.in-Ok-Some.field-0 c.in-Ok-Some.form _ _ _ c.perform_form.result c.in-Ok-Some.field-0-is c.perform_form.ensures.does (search rules))

pub returns-in-Ok-None-clause-runs : goal.returns-in-Ok-None-clause-runs
returns-in-Ok-None-clause-runs g c =
    asked_runs c.args.asked c.in-Ok-None.field-0 _ _ c.put_last_bad_words.result c.in-Ok-None.is
    (runs_none c.in-Ok-None.field-0 _ _ c.put_last_bad_words.result c.in-Ok-None.field-0-is
    (record { state = refl; files = refl; prints = c.put_last_bad_words.ensures.prints }))

pub returns-in-Err-clause-runs : goal.returns-in-Err-clause-runs
returns-in-Err-clause-runs g c = starved_runs c.args.asked _ _ c.in-Err.is

pub returns-in-Ok-None-clause-bad_words : goal.returns-in-Ok-None-clause-bad_words
returns-in-Ok-None-clause-bad_words g c = λ _. none_asked c.args.asked c.in-Ok-None.field-0 c.in-Ok-None.is c.in-Ok-None.field-0-is
