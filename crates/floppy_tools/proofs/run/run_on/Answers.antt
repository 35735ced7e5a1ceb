use Rattle.std.proofs.Common.{rules, refl, subst}
use Rattle.std.specs.Prelude.{map, string_bytes}
use Rattle.floppy_tools.proofs.Common.{board, outside_of}
use Rattle.floppy_tools.specs.Performed.{DoesWords}
use Rattle.floppy_tools.proofs.New.{counts_of_spares}
use Rattle.floppy_tools.proofs.run.run_on.Goals as goal

pub returns : goal.returns
returns g c = record {
  runs = record {
    new = board g.D.Drive.state c.in-Ok.machine;
    made = record { pace = c.args.pace; gaps = refl; holds = refl; strays = refl; made = c.in-Ok.ensures };
    does = subst (λ counts. DoesWords (map string_bytes c.args.words.now) (board g.D.Drive.state c.in-Ok.machine) counts
        (outside_of g.S.Shelf.told g.K.Sink.told c.args.shelf.now c.args.out.now) (board g.D.Drive.state c.floppy-status.result.1)
        (outside_of g.S.Shelf.told g.K.Sink.told c.floppy-status.new.shelf c.floppy-status.new.out) c.floppy-status.result.0)
        (counts_of_spares g.D.Drive.state c.in-Ok-spare.spare.items c.args.spare.first c.args.spare.second c.in-Ok-spare.ensures)
        c.floppy-status.ensures.does;
  };
  no_machine = search rules;
  untouched = search rules;
  shelf_faults = search rules;
  sink_faults = search rules;
}
