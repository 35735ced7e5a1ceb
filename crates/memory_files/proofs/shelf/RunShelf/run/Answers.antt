use Rattle.flop_base.specs.Counts.{RoseOnce}
use Rattle.memory_files.proofs.shelf.RunShelf.run.Goals as goal

-- a count that is 0 doesn't rise to 0
never_rose : RoseOnce 0 0 → ⊥
never_rose rose = absurd (cc)

pub returns-in-Some : goal.returns-in-Some
returns-in-Some c = record {
  left = c.in-Some._machine;
  runs = rw c.in-Some.is at c.run_plain-status.ensures.runs;
  no_file_fault = λ fault. never_rose (c.run_plain-status.ensures.shelf_faults.rose fault);
  no_sink_fault = λ fault. never_rose (c.run_plain-status.ensures.sink_faults.rose fault);
}
