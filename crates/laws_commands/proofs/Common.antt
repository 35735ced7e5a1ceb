-- What the lemmas of this crate cite of others, and of its own words.
pub use Rattle.std.proofs.Math.Nat.{mul-le-mul, mul_assoc, suc-mul}
pub use Rattle.std.proofs.lemmas.Bool.{and_parts, cases_eq, cases_lt, eqb-true, le-ltb, leb-true}
pub use Rattle.std.proofs.lemmas.Grind.{flat_map-append}
pub use Rattle.std.proofs.lemmas.List.{append-nil, drop-append-le, drop-replicate, drop_at, ext_get_or, get_or-drop, get_or-replicate, get_or-set_other, get_or-set_same, get_or-take, get_or_past, length-append, length-drop, length-map, length-replicate, length-set, length-take, map-append, take-append-le, take-replicate, take_all, take_at}
pub use Rattle.std.proofs.lemmas.List.Elements.{All-append, All-contains, All-contains_itself, All-from_recursion, All-map, All-nil, All-weaker, Contains-append_right, recursion_from_All}
pub use Rattle.std.proofs.lemmas.List.FromFn.{length-map-range_with_len, length-range_with_len}
pub use Rattle.std.proofs.lemmas.Nat.{mul-le}
pub use Rattle.std.specs.List.{AllByRecursion, AllPairs, flat_map, list_all, range_with_len}
pub use Rattle.std.specs.Option.{ok_or, option_map, option_map_or}
pub use Rattle.commands.proofs.Passed.{Did, IsTaken, Known, Opened, Passed, Passes, acknowledges_passes, at_once, carries_passed, carries_passes, did_both, did_nothing, does_both, each_does, each_named, each_nested, joined, joined_did, known, needs_passes, numbers_pass, opens_passed, opens_passes, over, run_both, same_part, says_passes, sets_rate_passed, taken_did, through_does, through_passes}
pub use Rattle.commands.proofs.Reading.{Answered, AskRun, Done, Halted, IsAnswered, IsRefused, IsWhole, NeedRun, Refused, Stopped, ask_answered, ask_run, carry_run, last_failed, last_run, last_stored, need_run, need_taken, no_stop_is_ok, prints_status}
pub use Rattle.commands.proofs.Running.{script_ties}
pub use Rattle.commands.specs.Leading.{Runs, with_report}
pub use Rattle.commands.specs.Parts.{Part, acknowledges, asks, by_track, carries, each, formats, may_starve, needs, no_tracks, opens, rate_requests, sets_rate, shape_at, through}
pub use Rattle.commands.specs.Records.{record_address, track_address}
pub use Rattle.commands.specs.Scripts.{Asks, Ends, Fails, IsStoreFault, IsStored, MayStarve, NotStored, RunsScript, Says, Script, Stores, StoresLast, unless_refused}
pub use Rattle.disk_commands.proofs.RescueRests.{by_absent, by_log, by_rest}
pub use Rattle.disk_commands.specs.Copy.{no_marks, tells_deleted, write_request}
pub use Rattle.disk_commands.specs.Export.{export_script, export_text}
pub use Rattle.disk_commands.specs.FlatFiles.{IsFlatFile, IsFlatFound, IsNotTaken}
pub use Rattle.disk_commands.specs.Format.{format_text}
pub use Rattle.disk_commands.specs.Import.{Imports, import_script, import_text, sectors_of}
pub use Rattle.disk_commands.specs.Logs.{AreFound, IsFound, IsLogFound, most_log_bytes}
pub use Rattle.disk_commands.specs.Rescue.{Rescues, after_answer, asked_keys, follows, gives_up, last_text, outcome_of, prepares, rescue_rest, rescue_script, rescues, stores_log}
pub use Rattle.disk_commands.specs.Verify.{failure_line, no_reads, one_more, verify_text}
pub use Rattle.flop_base.specs.Bays.{Two, both, in_bay, with_bay}
pub use Rattle.flop_base.specs.Counters.{Counters, DisturbedLess, FaultsRoseLess, GoesOn, IsFaultless, IsUndisturbed, faults_of}
pub use Rattle.flop_base.specs.Lists.{with_items}
pub use Rattle.flop_base.specs.Memory.{bytes_from, user_bytes}
pub use Rattle.flop_base.specs.Shelf.{Files, Store, after_store, file_at, stored}
pub use Rattle.flop_base.specs.Sink.{grown}
pub use Rattle.flop_base.specs.Standard.{gap_at, sectors_at, standard_code, standard_fill, words_at}
pub use Rattle.flop_base.specs.declared.answers.Code.{Code}
pub use Rattle.flop_base.specs.declared.answers.Code.TheVariants.{BadRequest, Changed, NotFound, Overrun, Page, Protected, Seek}
pub use Rattle.flop_base.specs.declared.answers.Rate.{Rate}
pub use Rattle.flop_base.specs.declared.answers.Rate.TheVariants.{R250, R500}
pub use Rattle.flop_base.specs.declared.answers.Status.{Status}
pub use Rattle.flop_base.specs.declared.key.Chrn.{Chrn}
pub use Rattle.floppy_jobs.specs.declared.request.Request.{Request}
pub use Rattle.floppy_session.specs.Blanks.{blank_request}
pub use Rattle.floppy_session.specs.Shapes.{shape_in, shape_of}
pub use Rattle.floppy_session.specs.declared.shape.Shape.{Shape}
pub use Rattle.laws_commands.specs.Copied.{CopiesDisk, Gave, HasAsGiven, IsFieldOf, IsSure, SomeStep, StoresCopy, copied_entry}
pub use Rattle.laws_commands.specs.Done.{DoesAll}
pub use Rattle.laws_commands.specs.EndsComplete.{BeginsSound, EndsWellOrOutside, HasKey, HaveSameSector, IsReadable, StoresRestAndLog, StoresSameAndLog, StoresSameSectors, TakesKeys}
pub use Rattle.laws_commands.specs.Exported.{IsAsRead, StoresExported, StoresFlatOf}
pub use Rattle.laws_commands.specs.Formatted.{IsFormattedDisk, IsFormattedEntry, LeavesFormatted, StoresFormatted, formatted_entry, standard_content, standard_track}
pub use Rattle.laws_commands.specs.Imported.{HasFlatSector, StoresDisk, StoresImported, sector_bytes}
pub use Rattle.laws_commands.specs.LaidFields.{HasLaidFields}
pub use Rattle.laws_commands.specs.Requests.{Track, copy_each, copy_opening, copy_requests, copy_track, format_each, format_requests, formatting, heads_of, mark_of, marks_read, read_each, read_records, tracks_of, verify_opening, write_record, write_records}
pub use Rattle.laws_commands.specs.Rescued.{AreTidy, BringsUpNoMark, HasShapeOf, HasTarget, IsLogged, IsNotFound, IsNotStopped, IsRescue, IsSaved, IsSettled, IsTidyFor, IsTidyWrite, KeepsEntries, LogsNotFound, StillHolds, WasNotRead, WasRefused, count_writes, diskette_for, entry_at, failing_lines, is_write, line_at, log_of, outcome_in}
pub use Rattle.laws_commands.specs.Stores.{StoresDiskAlone, StoresDiskThenLog, StoresFileAlone, StoresFirst, StoresRun, all_stored, bay_store, end_stores, medium_store, state_after, store_of, stores_by, stores_of}
pub use Rattle.laws_commands.specs.Times.{ArePutShort, PutsShort, RequestCosts, SetsAtMost, copy_cost, export_cost, format_cost, further_rescue_cost, import_cost, port_accesses_at, ready_cost, rescue_cost, times_at, verify_cost}
pub use Rattle.laws_commands.specs.Verified.{IsStandardKey, IsUnmistaken, ReadsDisk, all_told_of, refused_read, refused_reads, told_of}
pub use Rattle.laws_commands.specs.VerifyRuns.{IsEndStatus, TellsFailing, failing_line}
pub use Rattle.raw_image.specs.Disk.{Disk, HasTrack, IsDisk, blank_disk, track_of}
pub use Rattle.raw_image.specs.Image.{body_of, disk_of, file_of, whole_length}
pub use Rattle.raw_image.specs.Words.{bytes_of, words_of}
pub use Rattle.raw_image.specs.declared.error.ImageError.{ImageError}
pub use Rattle.raw_image.specs.declared.error.ImageError.TheVariants.{BadMagic, TooShort, Trailing}
pub use Rattle.rescue.specs.Course.{after_refusal, logged_keys, outcome_status, read_of, standard_keys, write_of}
pub use Rattle.rescue.specs.Log.{IsBefore, IsLog, IsLogLine, code_text, line_text, log_text}
pub use Rattle.rescue.specs.declared.line.LogLine.{LogLine}
pub use Rattle.sector_map.proofs.Changed.{change_keeps_address, change_keeps_tracks}
pub use Rattle.sector_map.proofs.KeptTracks.{alike_both, alike_itself, alike_tracks, elsewhere_on_map, keeps_both, keeps_itself, stays_regular, with_track_keeps}
pub use Rattle.sector_map.proofs.Laid.{all_track_keys, format_fits, laying_keeps_tracks, length-track_keys, track_key_at}
pub use Rattle.sector_map.proofs.MetTracks.{by_met, in_is_on, met_track, nothing_unrecorded}
pub use Rattle.sector_map.proofs.RegularTracks.{clear_address, key_cylinder, one_address}
pub use Rattle.sector_map.specs.Changes.{Change, IsChange, Written, window_of}
pub use Rattle.sector_map.specs.Disks.{Entry, IsOnMap, IsRegularDisk, LookOn}
pub use Rattle.sector_map.specs.Failing.{AreFailing, unless_found}
pub use Rattle.sector_map.specs.Flat.{IsSector as IsFlatSector, flat_length, sector_place, sectors_told}
pub use Rattle.sector_map.specs.KeptDisks.{AreAlike, KeepsTracks}
pub use Rattle.sector_map.specs.LaidDisks.{format_at}
pub use Rattle.sector_map.specs.Layings.{Format, IsFormattable, Laying, format_keys, formatted}
pub use Rattle.sector_map.specs.Met.{AllFound, HasClearAddress, HasNoClearMark}
pub use Rattle.sector_map.specs.MetTracks.{HasNothing}
pub use Rattle.sector_map.specs.Standard.{key_of, track_keys}
pub use Rattle.sector_model.specs.Calls.{AcksDrive, IsAcknowledged, SetsRate}
pub use Rattle.sector_model.specs.Formats.{FormatsDrive, Lays, LaysDisk}
pub use Rattle.sector_model.specs.Lasting.{format_once_port_accesses, format_steps, format_turns, turn_of}
pub use Rattle.sector_model.specs.Orders.{IsDeviceRefusal, IsRefusedAtOnce, crosses_page, format_refusal, is_acknowledged, is_bay, is_protected, is_sector_request, most_format_gap, rate_refusal, read_refusal, write_refusal}
pub use Rattle.sector_model.specs.Plays.{IsPutFault, Prints, World, whole_status}
pub use Rattle.sector_model.specs.Reads.{IsRead, IsReadCause, Reads, ReadsDrive, spoilable}
pub use Rattle.sector_model.specs.Runs.{AtFirst, AtSecond, EndStopsAt, EndsBay, IsEndStop, Left, Run, Stored, Taken, has_refusal, requests_of}
pub use Rattle.sector_model.specs.States.{ChangesMedium, State}
pub use Rattle.sector_model.specs.Stations.{Bay, Becomes, IsFresh, StationState, bay_of, fresh_bay, met, set_bay}
pub use Rattle.sector_model.specs.Steps.{AfterStop, Does, IsDriverCall, IsImageOf, Step, StopsAt, StoresMedium, blank_of, is_blank_request, is_loaded, most_image_bytes, read_reply, refusal_of, reply_of, unless_bad}
pub use Rattle.sector_model.specs.Texts.{is_refusal, stop_lines, stop_status}
pub use Rattle.sector_model.specs.Ties.{AreUndisturbed, accesses_of, entered_by}
pub use Rattle.sector_model.specs.Times.{AreWithin, IsWithin, course_port_accesses, course_time, port_accesses_of, time_of}
pub use Rattle.sector_model.specs.Writes.{ChangesAlone, ChangesDisk, IsWriteCause, Reaches, WritesDrive, WritesTo, written_from}
pub use Rattle.sector_model.specs.declared.reply.Reason.{Reason}
pub use Rattle.sector_model.specs.declared.reply.Reply.{Reply}
pub use Rattle.sector_model.specs.declared.reply.Stop.{Stop}
pub use Rattle.track_format.proofs.Laid.{laid_tidy}
pub use Rattle.track_model.proofs.Laid.{lay_laid, written_laid}
pub use Rattle.track_model.proofs.Splices.{length-with_items, with_items_at, with_items_before, with_items_behind}
pub use Rattle.track_model.proofs.Unique.{one_look_at, one_look_for}
pub use Rattle.track_model.specs.Fields.{IsAddressAt, IsSizeCode, content_at, content_size}
pub use Rattle.track_model.specs.Laid.{IsLaid, with_window}
pub use Rattle.track_model.specs.Layouts.{Fits, laid_words}
pub use Rattle.track_model.specs.Looks.{HasAddressMark, IsFirstAddress, LookAt, LookFor}
pub use Rattle.track_model.specs.Regular.{IsRegular}
pub use Rattle.track_model.specs.Sectors.{IsLone, IsPlain, IsSector, IsUnder}
pub use Rattle.track_model.specs.Windows.{HasFieldFor, IsTidy, cut_of, window_word}
pub use Rattle.track_model.specs.declared.Look.{Look}
pub use Rattle.track_model.specs.declared.Look.TheVariants.{BadCrc, Found, NoData, NoMark, NoSector}
