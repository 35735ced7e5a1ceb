-- What the lemmas of this crate cite of others, and of its own words.
pub use Rattle.std.proofs.Math.Bool.{or-false, or-true, or_assoc}
pub use Rattle.std.proofs.lemmas.Bool.{and_parts, cases_eq, cases_order, false≢true, le-ltb, leb-false, leb-true, lt-ltb, ltb-false, ltb-true}
pub use Rattle.std.proofs.lemmas.List.{nil_from_length, length-append, length-drop, length-map, length-replicate, length-take}
pub use Rattle.std.proofs.lemmas.Map.Made.{Contains-tail}
pub use Rattle.std.proofs.Math.Seq.{take-append_seam}
pub use Rattle.std.proofs.lemmas.List.Folds.{list_all-append}
pub use Rattle.std.proofs.lemmas.List.Elements.{All-take, All-contains, All-nil, All-weaker, recursion_from_All}
pub use Rattle.std.specs.Cmp.Lexicographic.{nat_list_cmp_total, slice_cmp}
pub use Rattle.std.specs.List.{list_all, list_any, range_with_len}
pub use Rattle.std.specs.Option.{option_map_or}
pub use Rattle.std.specs.Ordering.{eq_by_cmp, nat_cmp}
pub use Rattle.archive_commands.specs.Files.{Outside, ReadsAs}
pub use Rattle.archive_commands.specs.Making.{HasNoDisk, HasNoImd, HasNoRemaster, IsImdFile, IsRemasterFile, Makes, MakesFromImd, MakesRemaster, MakesToImd, Tells}
pub use Rattle.archive_commands.specs.Surveys.{SurveysFile, TellsSurvey}
pub use Rattle.archive_commands.specs.declared.halt.Halt.{Halt}
pub use Rattle.commands.proofs.Passed.{run_both}
pub use Rattle.commands.proofs.Reading.{last_failed, last_run, last_stored}
pub use Rattle.commands.proofs.Running.{HasRun, script_ran}
pub use Rattle.commands.specs.Leading.{Runs, with_report}
pub use Rattle.commands.specs.Parts.{by_track, carries, formats, no_tracks, shape_at, through}
pub use Rattle.commands.specs.Scripts.{Asks, Ends, Fails, IsStoreFault, IsStored, MayStarve, NotStored, RunsScript, Says, Script, Stores, StoresLast, unless_refused}
pub use Rattle.disk_commands.proofs.RescueRests.{by_absent, by_log, by_rest}
pub use Rattle.disk_commands.specs.FlatFiles.{IsFlatFile, IsFlatFound, IsNotTaken}
pub use Rattle.disk_commands.specs.Logs.{IsFound, IsLogFound}
pub use Rattle.disk_commands.specs.Rescue.{Rescues, asked_keys, last_text, outcome_of, rescue_rest, rescues}
pub use Rattle.fdc_commands.specs.Seeking.{Seeking, has_ended, is_seeking, seek_bits, sensed}
pub use Rattle.fdc_commands.specs.declared.motion.Seek.{Seek}
pub use Rattle.fdc_core.specs.Listening.{is_executing}
pub use Rattle.flop_base.proofs.Costs.{accesses_twice, accesses_within, costs_none, used_within}
pub use Rattle.flop_base.specs.Bays.{Two, both, in_bay, with_bay}
pub use Rattle.flop_base.specs.Counters.{AccessesPortsUpTo, Counters, DisturbedLess, DriveCounts, DriveGoesOn, FaultsRoseBy, FaultsRoseLess, GoesOn, IsDriven, IsFaultless, IsPastDriver, IsUndisturbed, LastsUpTo, faults_of}
pub use Rattle.flop_base.specs.Counts.{CanTell, RoseBy, Spends, last_count}
pub use Rattle.flop_base.specs.Lists.{with_items}
pub use Rattle.flop_base.specs.Memory.{bytes_from, user_bytes}
pub use Rattle.flop_base.specs.Shelf.{Files, Store, after_store, file_at, stored}
pub use Rattle.flop_base.specs.Sink.{grown}
pub use Rattle.flop_base.specs.Standard.{gap_at, sectors_at, standard_fill, words_at}
pub use Rattle.flop_base.specs.declared.answers.Code.{Code}
pub use Rattle.flop_base.specs.declared.answers.Code.TheVariants.{BadRequest, Changed, Page, Protected}
pub use Rattle.flop_base.specs.declared.answers.Rate.{Rate}
pub use Rattle.flop_base.specs.declared.answers.Rate.TheVariants.{R250, R500}
pub use Rattle.flop_base.specs.declared.answers.Status.{Status}
pub use Rattle.flop_base.specs.declared.key.Chrn.{Chrn}
pub use Rattle.floppy_jobs.specs.Texts.{calls_of, job_of, ports_of}
pub use Rattle.floppy_jobs.specs.declared.calls.CallLine.{CallLine}
pub use Rattle.floppy_jobs.specs.declared.ports.PortLine.{PortLine}
pub use Rattle.floppy_jobs.specs.declared.request.Request.{Request}
pub use Rattle.floppy_session.specs.Blanks.{blank_request}
pub use Rattle.floppy_session.specs.Shapes.{shape_of}
pub use Rattle.floppy_session.specs.declared.shape.Shape.{Shape}
pub use Rattle.floppy_tools.specs.Machines.{IsSetUp, RunsOver}
pub use Rattle.floppy_tools.specs.Performed.{Performed, RanOver, Stand, ports_world}
pub use Rattle.floppy_tools.specs.Programs.{AsAsked, Does, DoesForm, DoesOrStarves, StarvesWords}
pub use Rattle.floppy_words.specs.Forms.{form_of, ports_file_of}
pub use Rattle.floppy_words.specs.declared.form.Form.{Form}
pub use Rattle.imagedisk.specs.Reading.{image_of as imd_of}
pub use Rattle.laws_commands.proofs.Bays.{insert_stops, of_one, ok_taken}
pub use Rattle.laws_commands.proofs.CommandEnds.{copy_complete, format_complete, fresh_memory, verify_complete}
pub use Rattle.laws_commands.proofs.FlatEnds.{export_complete, import_complete, taken_flat}
pub use Rattle.laws_commands.proofs.Order.{stores_in_order}
pub use Rattle.laws_commands.proofs.Prepared.{blank_valid}
pub use Rattle.laws_commands.proofs.Storing.{each_standard, new_rescue_complete}
pub use Rattle.laws_commands.proofs.Steps.{and_both, done_does}
pub use Rattle.laws_commands.proofs.Verified.{file_fits, image_there}
pub use Rattle.laws_commands.proofs.Storing.{all_first, end_stops, ends_store, no_run, nothing_first, run_then, step_stores}
pub use Rattle.laws_commands.proofs.Turns.{HasTurns, told_short}
pub use Rattle.laws_commands.proofs.Verified.{one_image}
pub use Rattle.laws_commands.proofs.VerifyRun.{Tally, not_put, not_stop, verify_tells}
pub use Rattle.laws_commands.specs.Copied.{IsFieldOf, IsSure, StoresCopy}
pub use Rattle.laws_commands.specs.EndsComplete.{BeginsSound, EndsWellOrOutside, HasKey, HaveSameSector, IsReadable, StoresRestAndLog, StoresSameAndLog, StoresSameSectors, TakesKeys}
pub use Rattle.laws_commands.specs.Exported.{StoresExported, StoresFlatOf}
pub use Rattle.laws_commands.specs.Formatted.{StoresFormatted}
pub use Rattle.laws_commands.specs.Imported.{StoresDisk, StoresImported}
pub use Rattle.laws_commands.specs.Rescued.{BringsUpNoMark, GivesFields, HasTarget, IsNotFound, IsNotStopped, IsRescue, IsSettled, IsTarget, LogsNotFound, StoresRescue, TellsRescue, count_writes, entry_at, log_of, outcome_in}
pub use Rattle.laws_commands.specs.Stores.{StoresDiskAlone, StoresDiskThenLog, StoresFileAlone, StoresFirst, StoresRun, all_stored, bay_store, end_stores, medium_store, state_after, stores_by, stores_of}
pub use Rattle.laws_commands.specs.Times.{RequestCosts, SetsAtMost, copy_cost, copy_port_accesses, copy_time, export_cost, export_port_accesses, export_time, format_cost, further_rescue_cost, further_rescue_port_accesses, further_rescue_time, import_cost, import_port_accesses, import_time, port_accesses_at, rescue_cost, rescue_port_accesses, rescue_time, times_at, verify_cost, verify_port_accesses, verify_time, whole_format_port_accesses, whole_format_time}
pub use Rattle.laws_commands.specs.Verified.{IsStandardKey, IsUnmistaken, all_told_of, told_of}
pub use Rattle.laws_commands.specs.VerifyRuns.{IsEndStatus}
pub use Rattle.laws_machine.proofs.OnSteps.Moves.{input_goes, lasts, meets_within, output_goes, wait_goes, waits_goes}
pub use Rattle.laws_machine.specs.OnSteps.Ends.{Meets, Recalibrates, RunsNoSeek, pulses_left, seeks}
pub use Rattle.laws_machine.specs.OnSteps.Moves.{Acts, Goes, Lasting}
pub use Rattle.laws_program.specs.Answered.{AnswersCalls, AnswersJob, answers_of, replies_lines}
pub use Rattle.laws_program.specs.Determined.{AnswerAlike, AnswersAgree, AreBytes, AreRegularBefore, BeginAlike, EndAlike, EndAlikeUnlessFree, HasRegularDisks, IsFreeEnd, IsRegularIn}
pub use Rattle.laws_program.specs.Disturbed.{HadNoFault, HadNoStall, IsSound}
pub use Rattle.laws_program.specs.Ends.{EndsAnswered, EndsByFit, EndsByReplies, EndsOutside, EndsWell}
pub use Rattle.laws_program.specs.Guarded.{BlanksNone, BlanksUnder}
pub use Rattle.laws_program.specs.Inserted.{put_in, HoldsBy, InsertsDisk, InsertsDisks, IsDiskFile, IsDiskText, IsStoredBy, Names, is_free, media_among, named_by, requests_among}
pub use Rattle.laws_program.specs.Lasting.{CostsRun}
pub use Rattle.laws_program.specs.Made.{HasUnfit, MakesFile, TellsSurveyOf}
pub use Rattle.laws_program.specs.Seeks.{IsUsed, NotBoth, SeeksEnd}
pub use Rattle.laws_program.specs.Steps.{EachStep, FormatsTrack, IsDriveCause, IsFormat, IsGuarded, IsWrite, IsWriteRefused, KeepsGuarded, KeepsOtherFields, ReadsField, Sends, SendsFew, TellsCause, WritesAlone, WritesField, by_driver, course_commands, exchanges, format_in, has_exchanged, is_same_bay, most_commands, refusal_at_once}
pub use Rattle.laws_program.specs.Stored.{HasSomeField, IsReadSure, StoresCopyAsRead, StoresFlatAsRead, StoresLogOf}
pub use Rattle.laws_program.specs.Told.{IsNotToldStopped, ListsFailing}
pub use Rattle.machine_commands.specs.Shown.{counters_of, stalls_left}
pub use Rattle.machine_commands.specs.Started.{IsFreshBoard, Starts}
pub use Rattle.machine_commands.specs.StationShown.{ShowsStation}
pub use Rattle.pc_bus.specs.Boards.{Board, IsInRange, controller_of, drive_in, holds_of}
pub use Rattle.pc_bus.specs.Steps.{Waits, stirred}
pub use Rattle.pc_bus.specs.declared.bus.Bus.{Bus}
pub use Rattle.raw_image.proofs.Images.{image_again, image_found}
pub use Rattle.raw_image.specs.Disk.{Disk, HasTrack, IsDisk, blank_disk, track_of}
pub use Rattle.raw_image.specs.Image.{file_of, image_of}
pub use Rattle.raw_image.specs.declared.error.ImageError.{ImageError}
pub use Rattle.remaster.specs.declared.lines.SurveyLine.{SurveyLine}
pub use Rattle.rescue.specs.Course.{logged_keys, outcome_status, read_of, write_of}
pub use Rattle.rescue.specs.Log.{IsLog, IsLogLine, log_text}
pub use Rattle.rescue.specs.declared.line.LogLine.{LogLine}
pub use Rattle.sector_map.proofs.KeptTracks.{alike_itself, alike_tracks, has_after, keeps_both, keeps_itself, with_track_keeps}
pub use Rattle.sector_map.proofs.MetTracks.{by_met, cases_rate, met_track, nothing_there, nothing_unrecorded, on_nothing, on_there}
pub use Rattle.sector_map.proofs.RegularTracks.{clear_address, key_cylinder, spaced_from}
pub use Rattle.sector_map.specs.Changes.{Change, IsChange, Written}
pub use Rattle.sector_map.specs.Disks.{IsRegularDisk}
pub use Rattle.sector_map.specs.KeptDisks.{AreAlike, KeepsTracks}
pub use Rattle.sector_map.specs.Layings.{CanFormat, Format, IsFormattable, Laying, formatted}
pub use Rattle.sector_map.specs.Met.{met_in, met_on, unrecorded}
pub use Rattle.sector_map.specs.MetTracks.{HasNothing, MeetsTrack}
pub use Rattle.sector_map.specs.Standard.{key_of, standard_keys}
pub use Rattle.sector_model.proofs.JobTimes.{course_accesses_within, course_within, run_costs, same_within}
pub use Rattle.sector_model.proofs.Runs.{requests_more, run_more}
pub use Rattle.sector_model.specs.Calls.{Acks, AcksDrive, HasClearStart, HasNoStart, IsAcknowledged, RatesTo, SetsRate}
pub use Rattle.sector_model.specs.Faults.{Blames}
pub use Rattle.sector_model.specs.Formats.{FormatsDrive, FormatsTo, IsFormatted, IsUnformatted, Lays, LaysDisk}
pub use Rattle.sector_model.specs.Lasting.{dump_port_accesses, turn_of}
pub use Rattle.sector_model.specs.Orders.{IsRefusedAtOnce, crosses_page, format_refusal, is_acknowledged, is_bay, is_format_request, is_place, is_protected, is_sector_request, most_format_gap, rate_refusal, read_refusal, write_refusal}
pub use Rattle.sector_model.specs.Plays.{BrokenOff, EndStopped, Faulty, IsPutFault, IsText, Missing, Part, Part as InPart, Played, Plays, PlaysParsed, PlaysRequests, Prints, Starved, Stopped, TellsAlone, There, TooLong, Whole, World, most_job_bytes, whole_status}
pub use Rattle.sector_model.specs.Reads.{IsRead, IsReadCause, Reads, ReadsDrive, spoilable}
pub use Rattle.sector_model.specs.Runs.{AtFirst, AtSecond, EndStopsAt, EndsBay, IsEndStop, Left, Run, Stored, Taken, course_lines, has_refusal, requests_of}
pub use Rattle.sector_model.specs.States.{ChangesMedium, IsSame, State}
pub use Rattle.sector_model.specs.Stations.{Bay, Becomes, IsFresh, StationState, Stays, bay_of, fresh_bay, met, set_bay}
pub use Rattle.sector_model.specs.Steps.{AfterStop, Fills, IsAbsent, IsDriverCall, IsImageOf, IsLonger, IsRefused, Step, StopCause, StopsAt, blank_of, is_blank_request, is_loaded, most_image_bytes, read_reply, refusal_of, reply_of, spare_refusal, unless_bad}
pub use Rattle.sector_model.specs.Texts.{absent_text, bad_line_text, is_refusal, reply_lines, stop_lines, stop_status}
pub use Rattle.sector_model.specs.Ties.{AreUndisturbed, HasNothingLeft, IsJob, IsSpent, TiesCounts, accesses_of_job, entered_by}
pub use Rattle.sector_model.specs.Times.{IsWithin, course_port_accesses, course_time, job_port_accesses, job_time, most_port_accesses, most_time, port_accesses_of, time_of}
pub use Rattle.sector_model.specs.Writes.{ChangesAlone, ChangesDisk, IsWriteCause, IsWritten, Reaches, WritesDrive, WritesTo, written_from}
pub use Rattle.sector_model.specs.declared.reply.Reason.{Reason}
pub use Rattle.sector_model.specs.declared.reply.Reply.{Reply}
pub use Rattle.sector_model.specs.declared.reply.Stop.{Stop}
pub use Rattle.text_commands.proofs.FinishingPorts.{course_passes, ends_in_time, passes_rise, stays}
pub use Rattle.text_commands.proofs.RanCalls.{line_run, rounds_run}
pub use Rattle.text_commands.specs.Benches.{Bench, no_names}
pub use Rattle.text_commands.specs.CallCourses.{Broken, ServesCalls, ServesLines, ServesParsed, Through}
pub use Rattle.text_commands.specs.CallRounds.{AreRounds, AtPut, AtStop, Breaks, Round, course_of, has_refused, lines_of}
pub use Rattle.text_commands.specs.JobRounds.{world}
pub use Rattle.text_commands.specs.PortCourses.{PortRun, waits_of}
pub use Rattle.text_commands.specs.PortLines.{DoesLine, KeepsMedia, LoadsMedium, StoresMedium, eject_refusal, insert_refusal}
pub use Rattle.text_commands.specs.PortPlays.{PlaysLines}
pub use Rattle.text_commands.specs.declared.ports.answer.LineAnswer.{LineAnswer}
pub use Rattle.track_model.proofs.Sectored.{plain_clear}
pub use Rattle.track_model.proofs.Splices.{length-with_items}
pub use Rattle.track_model.proofs.Unique.{one_key, one_look_at}
pub use Rattle.track_model.specs.Fields.{IsAddressAt, after_marks, content_size}
pub use Rattle.track_model.specs.Looks.{HasAddressMark, LookAt}
pub use Rattle.track_model.specs.Regular.{IsRegular, span_cells}
pub use Rattle.track_model.specs.declared.Look.{Look}
pub use Rattle.track_model.specs.declared.Look.TheVariants.{BadCrc, Found, NoData, NoMark, NoSector}
