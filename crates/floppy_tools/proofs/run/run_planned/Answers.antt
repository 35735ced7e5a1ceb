use Rattle.std.proofs.Common.{rules, inl}
use Rattle.std.specs.Prelude.{map, string_bytes}
use Rattle.floppy_tools.proofs.Common.{outside_of, lists_of}
use Rattle.floppy_tools.proofs.New.{as_planned}
use Rattle.floppy_tools.proofs.run.run_planned.Goals as goal

pub returns-in-Err : goal.returns-in-Err
returns-in-Err g c = record {
  runs = search rules;
  no_machine = λ none. inl c.in-Err.ensures.ended;
  untouched = search rules;
  shelf_faults = search rules;
  sink_faults = search rules;
}

pub returns-in-Ok : goal.returns-in-Ok
returns-in-Ok g c = record {
  runs = as_planned c.args.plan.now (map string_bytes c.args.words.now) (lists_of c.in-Ok.plan)
      (g.S.Shelf.told c.args.shelf.now) (g.S.Shelf.told c.read_plan.new.shelf) (g.K.Sink.told c.args.out.now) (g.K.Sink.told c.read_plan.new.out)
      c.run_faulty.result.machine (outside_of g.S.Shelf.told g.K.Sink.told c.run_faulty.new.shelf c.run_faulty.new.out) c.run_faulty.result.status
      c.in-Ok.ensures.plan c.in-Ok.ensures.stays c.in-Ok.ensures.untold c.run_faulty.ensures.runs;
  no_machine = search rules;
  untouched = search rules;
  shelf_faults = search rules;
  sink_faults = search rules;
}
