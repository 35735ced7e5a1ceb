use Rattle.std.proofs.Common.{rules, subst, List, ℕ}
use Rattle.flop_base.specs.declared.answers.Rate.TheVariants.{R500, R250}
use Rattle.floppy_words.specs.declared.form.Form.TheVariants as form
use Rattle.commands.specs.Scripts.{RunsScript}
use Rattle.floppy_tools.proofs.Common.{Runs, DoesForm, outside_of}
use Rattle.commands.specs.Hands.{hand_of}
use Rattle.disk_commands.specs.Format.{format_script}
use Rattle.archive_commands.specs.Making.{FromImd, ToImd, Remaster}
use Rattle.archive_commands.specs.Surveys.{Surveys}
use Rattle.floppy_tools.proofs.OnFiles.{on_files}
use Rattle.floppy_tools.proofs.FormRuns.{form_runs, play_runs}
use Rattle.floppy_tools.proofs.forms.perform_form.Goals as goal

pub returns-in-Play : goal.returns-in-Play
returns-in-Play g c = record {
  does =
      let hand = hand_of g.S.Shelf.told g.S.Shelf.fault_count g.K.Sink.told g.K.Sink.fault_count in
      form_runs c.args.form (form.Play c.in-Play.job) _ _ c.play.result c.in-Play.is
      (subst (λ (j : List ℕ). Runs (DoesForm (form.Play j)) (hand c.args.run.now).world (hand c.play.new.run).world c.play.result) c.as_str.ensures
      (play_runs c.as_str.result.now _ _ c.play.result c.play.ensures.does));
  is_form = search rules;
  shelf_faults = search rules;
  sink_faults = search rules;
  same = search rules;
}

pub returns-in-Format : goal.returns-in-Format
returns-in-Format g c = record {
  does =
      let hand = hand_of g.S.Shelf.told g.S.Shelf.fault_count g.K.Sink.told g.K.Sink.fault_count in
      form_runs c.args.form (form.Format c.in-Format.name c.in-Format.cylinders) _ _ c.format_disk.result c.in-Format.is
      (subst (λ (n : ℕ). Runs (RunsScript (format_script c.in-Format.name n R500)) (hand c.args.run.now).world
      (hand c.format_disk.new.run).world c.format_disk.result) c.count.ensures.value c.format_disk.ensures.does);
  is_form = search rules;
  shelf_faults = search rules;
  sink_faults = search rules;
  same = search rules;
}

pub returns-in-FormatDd : goal.returns-in-FormatDd
returns-in-FormatDd g c = record {
  does =
      let hand = hand_of g.S.Shelf.told g.S.Shelf.fault_count g.K.Sink.told g.K.Sink.fault_count in
      form_runs c.args.form (form.FormatDd c.in-FormatDd.name c.in-FormatDd.cylinders) _ _ c.format_disk-in-FormatDd.result c.in-FormatDd.is
      (subst (λ (n : ℕ). Runs (RunsScript (format_script c.in-FormatDd.name n R250)) (hand c.args.run.now).world
      (hand c.format_disk-in-FormatDd.new.run).world c.format_disk-in-FormatDd.result) c.count-in-FormatDd.ensures.value c.format_disk-in-FormatDd.ensures.does);
  is_form = search rules;
  shelf_faults = search rules;
  sink_faults = search rules;
  same = search rules;
}

pub returns-in-FromImd : goal.returns-in-FromImd
returns-in-FromImd g c = record {
  does =
      form_runs c.args.form (form.FromImd c.in-FromImd.imd c.in-FromImd.name) _ _ c.from_imd.result c.in-FromImd.is
      (on_files (FromImd c.in-FromImd.imd c.in-FromImd.name) c.args.run.now.session.now
      (outside_of g.S.Shelf.told g.K.Sink.told c.args.run.now.shelf.now c.args.run.now.out.now)
      (outside_of g.S.Shelf.told g.K.Sink.told c.from_imd.new.shelf c.from_imd.new.out) c.from_imd.result c.from_imd.ensures.does);
  is_form = search rules;
  shelf_faults = search rules;
  sink_faults = search rules;
  same = search rules;
}

pub returns-in-ToImd : goal.returns-in-ToImd
returns-in-ToImd g c = record {
  does =
      form_runs c.args.form (form.ToImd c.in-ToImd.name c.in-ToImd.imd) _ _ c.to_imd.result c.in-ToImd.is
      (on_files (ToImd c.in-ToImd.name c.in-ToImd.imd) c.args.run.now.session.now (outside_of g.S.Shelf.told g.K.Sink.told c.args.run.now.shelf.now c.args.run.now.out.now)
      (outside_of g.S.Shelf.told g.K.Sink.told c.to_imd.new.shelf c.to_imd.new.out) c.to_imd.result c.to_imd.ensures.does);
  is_form = search rules;
  shelf_faults = search rules;
  sink_faults = search rules;
  same = search rules;
}

pub returns-in-Survey : goal.returns-in-Survey
returns-in-Survey g c = record {
  does =
      form_runs c.args.form (form.Survey c.in-Survey.name) _ _ c.survey_disk.result c.in-Survey.is
      (on_files (Surveys c.in-Survey.name) c.args.run.now.session.now (outside_of g.S.Shelf.told g.K.Sink.told c.args.run.now.shelf.now c.args.run.now.out.now)
      (outside_of g.S.Shelf.told g.K.Sink.told c.survey_disk.new.shelf c.survey_disk.new.out) c.survey_disk.result c.survey_disk.ensures.does);
  is_form = search rules;
  shelf_faults = search rules;
  sink_faults = search rules;
  same = search rules;
}

pub returns-in-Remaster : goal.returns-in-Remaster
returns-in-Remaster g c = record {
  does =
      form_runs c.args.form (form.Remaster c.in-Remaster.from c.in-Remaster.to) _ _ c.remaster_disk.result c.in-Remaster.is
      (on_files (Remaster c.in-Remaster.from c.in-Remaster.to) c.args.run.now.session.now
      (outside_of g.S.Shelf.told g.K.Sink.told c.args.run.now.shelf.now c.args.run.now.out.now)
      (outside_of g.S.Shelf.told g.K.Sink.told c.remaster_disk.new.shelf c.remaster_disk.new.out) c.remaster_disk.result c.remaster_disk.ensures.does);
  is_form = search rules;
  shelf_faults = search rules;
  sink_faults = search rules;
  same = search rules;
}

pub returns-in-Copy : goal.returns-in-Copy
returns-in-Copy g c = record {
  does = form_runs c.args.form (form.Copy c.in-Copy.from c.in-Copy.to) _ _ c.copy_disk.result c.in-Copy.is c.copy_disk.ensures.does;
  is_form = search rules;
  shelf_faults = search rules;
  sink_faults = search rules;
  same = search rules;
}

pub returns-in-Verify : goal.returns-in-Verify
returns-in-Verify g c = record {
  does = form_runs c.args.form (form.Verify c.in-Verify.name) _ _ c.verify_disk.result c.in-Verify.is c.verify_disk.ensures.does;
  is_form = search rules;
  shelf_faults = search rules;
  sink_faults = search rules;
  same = search rules;
}

pub returns-in-Export : goal.returns-in-Export
returns-in-Export g c = record {
  does = form_runs c.args.form (form.Export c.in-Export.name c.in-Export.flat) _ _ c.export_disk.result c.in-Export.is c.export_disk.ensures.does;
  is_form = search rules;
  shelf_faults = search rules;
  sink_faults = search rules;
  same = search rules;
}

pub returns-in-Import : goal.returns-in-Import
returns-in-Import g c = record {
  does = form_runs c.args.form (form.Import c.in-Import.flat c.in-Import.name) _ _ c.import_disk.result c.in-Import.is c.import_disk.ensures.does;
  is_form = search rules;
  shelf_faults = search rules;
  sink_faults = search rules;
  same = search rules;
}

pub returns-in-Int13 : goal.returns-in-Int13
returns-in-Int13 g c = record {
  does = form_runs c.args.form (form.Int13 c.in-Int13.calls) _ _ c.serve_calls.result c.in-Int13.is c.serve_calls.ensures.does;
  is_form = search rules;
  shelf_faults = search rules;
  sink_faults = search rules;
  same = search rules;
}

pub returns-in-Rescue : goal.returns-in-Rescue
returns-in-Rescue g c = record {
  does = form_runs c.args.form (form.Rescue c.in-Rescue.from c.in-Rescue.to c.in-Rescue.log) _ _ c.rescue_disk.result c.in-Rescue.is c.rescue_disk.ensures.does;
  is_form = search rules;
  shelf_faults = search rules;
  sink_faults = search rules;
  same = search rules;
}
