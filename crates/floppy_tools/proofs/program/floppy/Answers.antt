use Rattle.std.proofs.Common.{rules, ◌≡◌, ◌∙◌, List, Option, ℕ, refl, subst, sym}
use Rattle.std.specs.Prelude.{IsSome, map, string_bytes}
use Rattle.floppy_tools.proofs.Common.{board, form_of, ports_file_of, outside_of, all_counts, Names, no_names, RunsOver}
use Rattle.text_commands.specs.PortGuards.{RunsPorts}
use Rattle.text_commands.specs.PortPlays.{world_of}
use Rattle.text_commands.proofs.GuardingPorts.{starves}
use Rattle.floppy_tools.proofs.Ports.{named_file, wants_file}
use Rattle.floppy_tools.proofs.program.floppy.Goals as goal

pub returns-in-Ok-Some : goal.returns-in-Ok-Some
returns-in-Ok-Some g c =
    let spelled = ports_file_of (map string_bytes c.args.words.now) in
    record {
      does = record {
        runs = λ none.
            absurd (wants_file spelled (subst (λ (o : Option (List ℕ)). IsSome o) (sym c.in-Ok-Some.field-0-is ∙ c.in-Ok-Some.ensures.file) refl) none);
        ports = λ file named.
            let is : c.as_str.result.now ≡ file =
            c.as_str.ensures ∙ named_file c.in-Ok-Some.field-0 spelled c.in-Ok-Some.file file c.in-Ok-Some.field-0-is c.in-Ok-Some.ensures.file named in
            subst (λ (f : List ℕ). (names : Names) × RunsPorts f
            (world_of g.D.Drive.state g.S.Shelf.told g.K.Sink.told c.args.machine no_names c.args.shelf.now c.args.out.now)
            (world_of g.D.Drive.state g.S.Shelf.told g.K.Sink.told c.at_ports.result.1 names c.at_ports.new.shelf c.at_ports.new.out)
            c.at_ports.result.0) is c.at_ports.ensures.does;
        bad_words = search rules;
      };
      shelf_faults = search rules;
      sink_faults = search rules;
    }

pub returns-in-Ok-None : goal.returns-in-Ok-None
returns-in-Ok-None g c =
    let asked = form_of (map string_bytes c.args.words.now) in
    let before = outside_of g.S.Shelf.told g.K.Sink.told c.args.shelf.now c.args.out.now in
    let after = outside_of g.S.Shelf.told g.K.Sink.told c.run_asked-status.new.shelf c.run_asked-status.new.out in
    let spares = all_counts g.D.Drive.state c.args.spare.items in
    let old = board g.D.Drive.state c.args.machine in
    let new = board g.D.Drive.state c.into_machine.result in
    let ran : RunsOver asked old spares before new after c.run_asked-status.result = record {
      start = c.set_up-session.result;
      last = c.run_asked-status.new.session;
      set_up = c.set_up-session.ensures;
      shows = c.into_machine.ensures;
      runs = c.run_asked-status.ensures.runs asked c.form_named-asked.ensures.form;
    } in
    record {
      does = record {
        runs = λ none. ran;
        ports = search rules;
        bad_words = search rules;
      };
      shelf_faults = search rules;
      sink_faults = search rules;
    }

pub returns-in-Err : goal.returns-in-Err
returns-in-Err g c = record {
  does = record {
    runs = λ none. absurd (wants_file (ports_file_of (map string_bytes c.args.words.now)) c.in-Err.ensures.file none);
    ports = λ file named.
        (no_names, starves (world_of g.D.Drive.state g.S.Shelf.told g.K.Sink.told c.args.machine no_names c.args.shelf.now c.args.out.now) file);
    bad_words = search rules;
  };
  shelf_faults = search rules;
  sink_faults = search rules;
}
