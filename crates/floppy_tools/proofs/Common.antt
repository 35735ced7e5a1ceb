-- What the lemmas of this crate cite of others, and of its own words.
pub use Rattle.archive_commands.specs.Files.{Outside, outside_of}
pub use Rattle.commands.specs.LastLines.{bad_words_text}
pub use Rattle.commands.specs.Leading.{Runs}
pub use Rattle.drive_model.specs.Drive.{DriveState, with_motor}
pub use Rattle.fault_plan.specs.Plan.{Plan, ReadsPlan, lists_of, plan_spelled}
pub use Rattle.flop_base.specs.Shelf.{Files, Loads, file_at}
pub use Rattle.flop_base.specs.declared.answers.Status.{Status}
pub use Rattle.floppy_tools.specs.Machines.{IsSetUp, RunsOver}
pub use Rattle.floppy_tools.specs.Plans.{EndsWithoutPlan, TellsUnread, Unloaded, Unread, most_plan_bytes}
pub use Rattle.floppy_tools.specs.Programs.{AsAsked, Does, DoesForm, DoesOrStarves, OnFiles, StarvesWords}
pub use Rattle.floppy_words.specs.Forms.{Reads, form_of, ports_file_of}
pub use Rattle.floppy_words.specs.declared.form.Form.{Form}
pub use Rattle.machine_commands.specs.Started.{IsFreshBoard, Starts}
pub use Rattle.machine_commands.specs.StationShown.{ShowsStation, all_counts, station_shown}
pub use Rattle.pc_bus.specs.Boards.{Board, IsEmpty, board}
pub use Rattle.sector_model.specs.Plays.{Plays, Tells, TellsAlone, World}
pub use Rattle.sector_model.specs.Runs.{Taken}
pub use Rattle.sector_model.specs.States.{State, start_of}
pub use Rattle.text_commands.specs.Benches.{IsBare, Names, no_names}
