-- What the words of this crate cite of others.
pub use Rattle.std.specs.Fmt.{decimal}
pub use Rattle.std.specs.declared.alloc.Global.{Global}
pub use Rattle.commands.specs.Leading.{Finishes, Goes, Hand, IsSameHand, Ran, RanLast, RanPart, Runs}
pub use Rattle.commands.specs.Parts.{Part, acknowledges, asks, by_track, carries, each, formats, may_starve, needs, opens, says, through}
pub use Rattle.commands.specs.Records.{record_address, track_address}
pub use Rattle.commands.specs.Scripts.{Ends, Fails, RunsScript, Script, Stores}
pub use Rattle.flop_base.specs.Memory.{bytes_from, user_bytes}
pub use Rattle.flop_base.specs.Shelf.{Files, file_at}
pub use Rattle.flop_base.specs.Standard.{sectors_at}
pub use Rattle.flop_base.specs.declared.answers.LoadError.{LoadError}
pub use Rattle.flop_base.specs.declared.answers.Rate.{Rate}
pub use Rattle.flop_base.specs.declared.answers.Status.{Status}
pub use Rattle.flop_base.specs.declared.key.Chrn.{Chrn}
pub use Rattle.floppy_jobs.specs.declared.request.Request.{Request}
pub use Rattle.floppy_session.specs.Blanks.{blank_request}
pub use Rattle.floppy_session.specs.Tries.{HasTries}
pub use Rattle.floppy_session.specs.declared.shape.Shape.{Shape}
pub use Rattle.rescue.specs.Log.{IsFirstBadLine, IsLog, log_text}
pub use Rattle.rescue.specs.declared.course.AfterRead.{AfterRead}
pub use Rattle.rescue.specs.declared.line.LogLine.{LogLine}
pub use Rattle.sector_map.specs.Flat.{IsDensity, flat_length, sector_place, sectors_told}
pub use Rattle.sector_map.specs.Standard.{key_of}
pub use Rattle.sector_model.specs.Faults.{Blames}
pub use Rattle.sector_model.specs.Plays.{World, whole_status}
pub use Rattle.sector_model.specs.Runs.{Taken}
pub use Rattle.sector_model.specs.Steps.{IsAbsent, IsLonger}
pub use Rattle.sector_model.specs.Texts.{is_refusal, line_end, reason_text, stop_lines, stop_status}
pub use Rattle.sector_model.specs.declared.reply.Reason.{Reason}
pub use Rattle.sector_model.specs.declared.reply.Reply.{Reply}
pub use Rattle.sector_model.specs.declared.reply.Stop.{Stop}
