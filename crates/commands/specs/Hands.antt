-- What a run shows.
use Rattle.std.specs.Prelude.{ℕ, List, Option}
use Rattle.commands.specs.Common.{Files}
use Rattle.commands.specs.declared.run.Run.{Run}
use Rattle.commands.specs.Leading.{Hand}

-- what a run holds: the values of its references, and the names of these
abbrev pub hand_of : {D S K : Type 0} → (S → Option Files) → (S → ℕ) → (K → Option (List (List ℕ))) → (K → ℕ) → Run D S K → Hand
hand_of files shelf_count report sink_count run = record {
  world = record { state = run.session.now; files = files run.shelf.now; report = report run.out.now };
  shelf_faults = shelf_count run.shelf.now;
  sink_faults = sink_count run.out.now;
  session_ref = run.session.ghost_name;
  shelf_ref = run.shelf.ghost_name;
  out_ref = run.out.ghost_name;
}
