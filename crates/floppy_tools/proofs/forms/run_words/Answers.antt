use Rattle.std.proofs.Common.{rules}
use Rattle.std.specs.Prelude.{map, string_bytes}
use Rattle.floppy_tools.proofs.Common.{form_of}
use Rattle.floppy_tools.proofs.FormRuns.{read_none}
use Rattle.floppy_tools.proofs.forms.run_words.Goals as goal

pub returns-clause-ran : goal.returns-clause-ran
returns-clause-ran g c =
    let spelled = form_of (map string_bytes c.args.words.now) in
    record {
      runs = (
        c.run_asked-status.new.session.names,
        rw (← c.new-session.ensures, c.into_station.ensures.shown) (c.run_asked-status.ensures.runs spelled c.form_named-asked.ensures.form),
      );
      bad_words = λ ended. read_none c.form_named-asked.result spelled (c.run_asked-status.ensures.bad_words ended) c.form_named-asked.ensures.form;
      shelf_faults = search rules;
      sink_faults = search rules;
    }
