-- What the lemmas of this crate cite of others, and of its own words.
pub use Rattle.std.proofs.lemmas.Bool.{cases_lt, true≢false}
pub use Rattle.std.proofs.lemmas.List.{map-append, take_all}
pub use Rattle.std.proofs.lemmas.Result.{err_from_is_err_and}
pub use Rattle.std.specs.List.{flat_map, range_with_len}
pub use Rattle.commands.specs.LastLines.{stopped_text, unfit_text}
pub use Rattle.commands.specs.Leading.{Finishes, Goes, Hand, IsAmid, IsAtTurn, IsSameHand, IsTurning, Leads, PutsLines, RanPart, Runs, with_report}
pub use Rattle.commands.specs.Parts.{Part, asks, each, formats, needs, no_tracks, rate_requests, shape_at}
pub use Rattle.commands.specs.Scripts.{Asks, Ends, Fails, IsPrinted, IsStored, MayStarve, NotStored, RunsScript, Says, Script, Stores, StoresLast, unless_refused}
pub use Rattle.flop_base.specs.Shelf.{Files}
pub use Rattle.flop_base.specs.Sink.{GrowsByPart, IsCutOf, grown}
pub use Rattle.flop_base.specs.declared.answers.Status.{Status}
pub use Rattle.floppy_jobs.specs.Spelling.{hex5}
pub use Rattle.floppy_jobs.specs.declared.request.Request.{Request}
pub use Rattle.floppy_session.specs.Shapes.{shape_in, shape_of}
pub use Rattle.floppy_session.specs.declared.shape.Shape.{Shape}
pub use Rattle.sector_model.specs.Plays.{IsPutFault, Prints, Whole, World}
pub use Rattle.sector_model.specs.Runs.{Run, Taken, has_refusal, requests_of}
pub use Rattle.sector_model.specs.States.{State}
pub use Rattle.sector_model.specs.Stations.{StationState, bay_of}
pub use Rattle.sector_model.specs.Steps.{Step, StopsAt, refusal_of}
pub use Rattle.sector_model.specs.Texts.{dump_byte, is_refusal, line_end, stop_lines, stop_status}
pub use Rattle.sector_model.specs.declared.reply.Reason.{Reason}
pub use Rattle.sector_model.specs.declared.reply.Reply.{Reply}
pub use Rattle.sector_model.specs.declared.reply.Stop.{Stop}
