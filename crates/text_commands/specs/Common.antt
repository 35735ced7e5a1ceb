-- What the words of this crate cite of others.
pub use Rattle.bios_int13.specs.Services.{Serves}
pub use Rattle.bios_int13.specs.declared.regs.Regs.{Regs}
pub use Rattle.commands.specs.Leading.{Ran, RanPart, Runs}
pub use Rattle.drive_model.specs.Drive.{DriveState, is_protected, loaded, unloaded}
pub use Rattle.flop_base.specs.Bays.{Two, in_bay, with_bay}
pub use Rattle.flop_base.specs.Shelf.{Files, stored}
pub use Rattle.flop_base.specs.Sink.{GrowsByPart, grown}
pub use Rattle.flop_base.specs.declared.answers.Status.{Status}
pub use Rattle.floppy_jobs.specs.Spelling.{hex2, hex_digit}
pub use Rattle.floppy_jobs.specs.Texts.{calls_of, job_of, ports_of}
pub use Rattle.floppy_jobs.specs.declared.calls.CallLine.{CallLine}
pub use Rattle.floppy_jobs.specs.declared.ports.PortLine.{PortLine}
pub use Rattle.floppy_jobs.specs.declared.request.Request.{Request}
pub use Rattle.floppy_session.specs.Tries.{HasTries}
pub use Rattle.pc_bus.specs.Boards.{Board, IsInRange, board, controller_of, drive_in, latch_of}
pub use Rattle.pc_bus.specs.Handling.{Touches, irq_taken}
pub use Rattle.pc_bus.specs.declared.machine.MachineOf.{MachineOf}
pub use Rattle.sector_model.specs.Faults.{Blames}
pub use Rattle.sector_model.specs.Plays.{IsIdle, IsPutFault, IsText, Plays, PlaysParsed, PlaysRequests, Prints, TellsAlone, World, most_job_bytes, whole_status}
pub use Rattle.sector_model.specs.Runs.{EndStopsAt, Ends, IsEndStop, Run, Taken, course_lines, has_refusal, requests_of}
pub use Rattle.sector_model.specs.States.{State}
pub use Rattle.sector_model.specs.Steps.{IsAbsent, IsImageOf, IsLonger, Step, StopCause, StopsAt}
pub use Rattle.sector_model.specs.Texts.{absent_text, bad_line_text, is_refusal, line_end, reason_text, reply_lines, stop_lines, stop_status}
pub use Rattle.sector_model.specs.declared.reply.Reply.{Reply}
pub use Rattle.sector_model.specs.declared.reply.Stop.{Stop}
