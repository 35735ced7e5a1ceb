-- What the words of this crate cite of others.
pub use Rattle.archive_commands.specs.Files.{FaultyOutside, Outside, faulty_outside_of}
pub use Rattle.commands.specs.Leading.{Ran, Runs}
pub use Rattle.drive_model.specs.Drive.{DriveState}
pub use Rattle.drive_model.specs.Mechanics.{at_rest}
pub use Rattle.drive_model.specs.PlainDrive.{plain_state}
pub use Rattle.drive_model.specs.ScriptDrive.{script_of, script_state, told}
pub use Rattle.fault_plan.specs.Plan.{Plan, ReadsPlan, lists_of, plan_spelled}
pub use Rattle.flop_base.specs.Bays.{Two, both}
pub use Rattle.flop_base.specs.Counters.{DriveCounts}
pub use Rattle.flop_base.specs.Shelf.{Files, Loads, file_at}
pub use Rattle.flop_base.specs.declared.answers.Status.{Status}
pub use Rattle.floppy_words.specs.Forms.{Reads, form_of, ports_file_of}
pub use Rattle.floppy_words.specs.declared.form.Form.{Form}
pub use Rattle.irq_events.specs.declared.pace.Pace.{Pace}
pub use Rattle.machine_commands.specs.Started.{IsFreshBoard, Starts}
pub use Rattle.machine_commands.specs.StationShown.{ShowsStation, all_counts}
pub use Rattle.pc_bus.specs.Boards.{Board, IsEmpty, IsNew, board}
pub use Rattle.pc_bus.specs.declared.machine.MachineOf.{MachineOf}
pub use Rattle.sector_model.specs.Faults.{Blames}
pub use Rattle.sector_model.specs.Plays.{IsIdle, Plays, Prints, TellsAlone, World}
pub use Rattle.sector_model.specs.Runs.{Taken}
pub use Rattle.sector_model.specs.States.{State, start_of}
pub use Rattle.sector_model.specs.Stations.{IsFresh, StationState}
pub use Rattle.sector_model.specs.Texts.{absent_text}
pub use Rattle.text_commands.specs.Benches.{Names, no_names}
pub use Rattle.text_commands.specs.PortGuards.{RunsBare, RunsPorts}
