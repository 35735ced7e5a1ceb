-- What is seen of a shelf on which the program runs.
use Rattle.std.specs.Prelude.{◌≢◌, ℕ, List, Some}
use Rattle.memory_files.specs.MemShelf.{files_of}
use Rattle.memory_files.specs.MemSink.{lines_of}
use Rattle.flop_base.specs.Shelf.{Files}
use Rattle.flop_base.specs.declared.answers.Status.{Status}
use Rattle.flop_base.specs.declared.answers.Status.TheVariants.{FileFault, SinkFault}
use Rattle.drive_model.specs.PlainDrive.{plain_state}
use Rattle.drive_model.specs.declared.plain.PlainDrive.{PlainDrive}
use Rattle.pc_bus.specs.declared.machine.MachineOf.{MachineOf}
use Rattle.archive_commands.specs.Files.{Outside}
use Rattle.floppy_tools.specs.Runs.{plain_parts, RunsNew}
use Rattle.memory_files.specs.declared.shelf.RunShelf.{RunShelf}

-- the files of the shelf
abbrev pub files_in : RunShelf → Files
files_in shelf = files_of shelf.shelf.files

-- the lines that were printed, and not forgotten
abbrev pub report_in : RunShelf → List (List ℕ)
report_in shelf = lines_of shelf.sink.lines

-- the files and the report, as a command sees them
abbrev pub outside_in : RunShelf → Outside
outside_in shelf = record { files = Some (files_in shelf); report = Some (report_in shelf) }

-- the program ran with these arguments on a new machine and ended with this status. The machine's drives have no
-- faults, and nothing delays the machine. No call of the files or of the output failed, so the status reports no fault
pub record RanPlain (words : List (List ℕ)) (before after : Outside) (ended : Status) : Type 0 where
  pub left : MachineOf PlainDrive
  pub runs : RunsNew plain_state plain_parts words before left after ended
  pub no_file_fault : ended ≢ FileFault
  pub no_sink_fault : ended ≢ SinkFault
