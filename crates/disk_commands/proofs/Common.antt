-- What the lemmas of this crate cite of others, and of its own words.
pub use Rattle.std.proofs.lemmas.List.{drop_all, get_or-drop, take_more}
pub use Rattle.std.proofs.lemmas.Result.{err_from_is_err_and}
pub use Rattle.commands.proofs.Looping.{amid_ends, amid_goes, amid_over, begins, ends, goes_on, over, turn_ends, turn_goes, turns_over}
pub use Rattle.commands.proofs.Running.{ends_told, fed, finished, leads_itself, starved, with_course}
pub use Rattle.commands.specs.Leading.{Finishes, Goes, Hand, IsAmid, IsRunOf, IsTurning, Leads, RanPart, Runs, TellsStop}
pub use Rattle.commands.specs.Parts.{Part, by_track, each, may_starve, opens}
pub use Rattle.commands.specs.Records.{record_address}
pub use Rattle.commands.specs.Scripts.{Ends, Fails, RunsScript, Script, Stores}
pub use Rattle.disk_commands.specs.Copy.{copies_track, no_marks, reads_record, writes_record}
pub use Rattle.disk_commands.specs.Export.{GoesOn, reads_track}
pub use Rattle.disk_commands.specs.Import.{Imports, fills_byte, fills_record, import_script, imports_track}
pub use Rattle.disk_commands.specs.Logs.{AreFound, IsBadLog, IsFound, IsLogFound, lines_found, most_log_bytes}
pub use Rattle.disk_commands.specs.Rescue.{Rescues, asked_keys, bad_log_text, last_text, outcome_of, rescue_found, rescue_rest, rescue_script, rescues, rescues_all, stores_log}
pub use Rattle.disk_commands.specs.RescueLeading.{FinishesFound, LogGoes}
pub use Rattle.disk_commands.specs.Verify.{failure_line, verifies_record, verifies_track}
pub use Rattle.disk_commands.specs.Workload.{next_number, number_after}
pub use Rattle.disk_commands.specs.declared.logs.NoLog.{NoLog}
pub use Rattle.flop_base.specs.Memory.{bytes_from}
pub use Rattle.flop_base.specs.Shelf.{Files, file_at}
pub use Rattle.flop_base.specs.Standard.{sectors_at}
pub use Rattle.flop_base.specs.declared.answers.Rate.{Rate}
pub use Rattle.flop_base.specs.declared.answers.Rate.TheVariants.{R250, R500}
pub use Rattle.flop_base.specs.declared.answers.Status.{Status}
pub use Rattle.flop_base.specs.declared.key.Chrn.{Chrn}
pub use Rattle.floppy_session.specs.declared.shape.Shape.{Shape}
pub use Rattle.rescue.specs.Log.{IsFirstBadLine, IsLog, log_text}
pub use Rattle.rescue.specs.declared.line.LogLine.{LogLine}
pub use Rattle.sector_model.specs.Plays.{IsPutFault, Prints, Whole, World}
