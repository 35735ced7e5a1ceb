-- What the words of this crate cite of others.
pub use Rattle.std.specs.Fmt.{decimal}
pub use Rattle.flop_base.specs.Shelf.{Files, Loads, stored}
pub use Rattle.flop_base.specs.Sink.{GrowsByPart, grown}
pub use Rattle.flop_base.specs.declared.answers.LoadError.{LoadError}
pub use Rattle.flop_base.specs.declared.answers.Rate.{Rate}
pub use Rattle.flop_base.specs.declared.answers.Status.{Status}
pub use Rattle.floppy_jobs.specs.declared.request.Request.{Request}
pub use Rattle.floppy_session.specs.Shapes.{shape_in}
pub use Rattle.floppy_session.specs.Tries.{HasTries}
pub use Rattle.sector_model.specs.Faults.{Blames}
pub use Rattle.sector_model.specs.Plays.{IsPutFault, Prints, Tells, World, whole_status}
pub use Rattle.sector_model.specs.Runs.{EndStopsAt, Ends as EndsBays, IsEndStop, Taken}
pub use Rattle.sector_model.specs.States.{State}
pub use Rattle.sector_model.specs.Stations.{bay_of}
pub use Rattle.sector_model.specs.Steps.{Step, StopsAt}
pub use Rattle.sector_model.specs.Texts.{absent_text, bad_line_text, dump_byte, dump_line, dump_lines, image_error_text, image_text, is_refusal, line_end, reason_text, reply_lines, stop_lines, stop_status}
pub use Rattle.sector_model.specs.declared.reply.Reply.{Reply}
pub use Rattle.sector_model.specs.declared.reply.Stop.{Stop}
