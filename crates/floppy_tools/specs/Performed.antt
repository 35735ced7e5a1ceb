-- What the top call does with its arguments (words).
use Rattle.std.specs.Prelude.{◌≡◌, ℕ, List, Option, None, Some}
use Rattle.floppy_tools.specs.Common.{Files, Status, DriveCounts, DriveState, Board, board, MachineOf, Blames, Form, form_of, ports_file_of, Outside, FaultyOutside, faulty_outside_of, Names, no_names, RunsPorts}
use Rattle.flop_base.specs.declared.answers.Status.TheVariants as status
use Rattle.text_commands.specs.PortPlays.{World}
use Rattle.floppy_tools.specs.Machines.{RunsOver}

-- port accesses run on a board, over the files and the report of an outside
abbrev pub ports_world : Board → Names → Outside → World
ports_world board names outside =
    record { bench = record { board = board; names = names; files = outside.files }; report = outside.report }

-- what the arguments ask for was done on a board. It was done over a driver, as a run of the sector model, or at the
-- ports, up to the machine that comes back. The status says that the arguments are neither a subcommand (form) nor
-- `ports FILE` only if that is so
pub record DoesWords (words : List (List ℕ)) (old : Board) (spares : List DriveCounts) (before : Outside) (new : Board) (after : Outside) (ended : Status) : Type 0 where
  pub runs : ports_file_of words ≡ None → RunsOver (form_of words) old spares before new after ended
  pub ports : (file : List ℕ) → ports_file_of words ≡ Some file
      → (names : Names) × RunsPorts file (ports_world old no_names before) (ports_world new names after) ended
  pub bad_words : ended ≡ status.BadWords → (form_of words ≡ None) × (ports_file_of words ≡ None)

-- all that the top call changes: a machine, files and report, and the faults that file store (shelf) and output (sink)
-- counted
pub record Stand : Type 0 where
  pub board : Board
  pub outside : FaultyOutside

abbrev pub stand_of : {D S K : Type 0} → (D → DriveState) → (S → Option Files) → (S → ℕ) → (K → Option (List (List ℕ))) → (K → ℕ) → MachineOf D → S → K → Stand
stand_of state files shelf_count report sink_count machine shelf out =
    record { board = board state machine; outside = faulty_outside_of files shelf_count report sink_count shelf out }

-- a subcommand, or arguments that are none, was done over a driver. If the status reports a fault, it was counted once;
-- else no fault was counted
pub record RanOver (asked : Option Form) (spares : List DriveCounts) (old new : Stand) (ended : Status) : Type 0 where
  pub runs : RunsOver asked old.board spares old.outside.outside new.board new.outside.outside ended
  pub bad_words : ended ≡ status.BadWords → asked ≡ None
  pub shelf_faults : Blames (ended ≡ status.FileFault) old.outside.shelf_faults new.outside.shelf_faults
  pub sink_faults : Blames (ended ≡ status.SinkFault) old.outside.sink_faults new.outside.sink_faults

-- the top call did what its arguments say. If the status reports a fault, it was counted once; else no fault was
-- counted
pub record Performed (words : List (List ℕ)) (spares : List DriveCounts) (old new : Stand) (ended : Status) : Type 0 where
  pub does : DoesWords words old.board spares old.outside.outside new.board new.outside.outside ended
  pub shelf_faults : Blames (ended ≡ status.FileFault) old.outside.shelf_faults new.outside.shelf_faults
  pub sink_faults : Blames (ended ≡ status.SinkFault) old.outside.sink_faults new.outside.sink_faults
