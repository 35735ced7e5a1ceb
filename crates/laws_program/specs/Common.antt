-- What the words of this crate cite of others.
pub use Rattle.archive_commands.specs.Files.{Outside, ReadsAs}
pub use Rattle.archive_commands.specs.Making.{HasNoDisk, HasNoImd, HasNoRemaster, MakesFromImd, MakesRemaster, MakesToImd, made_text}
pub use Rattle.disk_commands.specs.FlatFiles.{IsFlatFile}
pub use Rattle.disk_commands.specs.Logs.{IsLogFound}
pub use Rattle.flop_base.specs.Bays.{Two, both, in_bay, with_bay}
pub use Rattle.flop_base.specs.Counters.{Counters, DriveCounts, IsDriven, IsFaultless}
pub use Rattle.flop_base.specs.Counts.{RoseBy, RoseLess, RoseOnce}
pub use Rattle.flop_base.specs.Shelf.{Files, Store, file_at, stored}
pub use Rattle.flop_base.specs.Sink.{grown}
pub use Rattle.flop_base.specs.Standard.{gap_at, sectors_at, standard_fill, words_at}
pub use Rattle.flop_base.specs.declared.answers.Code.{Code}
pub use Rattle.flop_base.specs.declared.answers.Rate.{Rate}
pub use Rattle.flop_base.specs.declared.answers.Rate.TheVariants.{R250, R500}
pub use Rattle.flop_base.specs.declared.answers.Status.{Status}
pub use Rattle.flop_base.specs.declared.key.Chrn.{Chrn}
pub use Rattle.floppy_jobs.specs.Texts.{calls_of, job_of, ports_of}
pub use Rattle.floppy_jobs.specs.declared.calls.CallLine.{CallLine}
pub use Rattle.floppy_jobs.specs.declared.ports.PortLine.{PortLine}
pub use Rattle.floppy_jobs.specs.declared.request.Request.{Request}
pub use Rattle.floppy_session.specs.Shapes.{shape_of}
pub use Rattle.floppy_tools.specs.Machines.{RunsOver}
pub use Rattle.floppy_tools.specs.Performed.{Performed, RanOver, Stand}
pub use Rattle.floppy_words.specs.Forms.{form_of, ports_file_of}
pub use Rattle.floppy_words.specs.declared.form.Form.{Form}
pub use Rattle.laws_commands.specs.Copied.{AllLone, IsFieldOf}
pub use Rattle.laws_commands.specs.EndsComplete.{HasKey, HaveSameSector, IsReadable, StoresRestAndLog, StoresSameAndLog, StoresSameSectors, TakesKeys}
pub use Rattle.laws_commands.specs.Exported.{HasContent, StoresFlatOf}
pub use Rattle.laws_commands.specs.Formatted.{StoresFormatted}
pub use Rattle.laws_commands.specs.Imported.{StoresDisk, StoresImported, sector_bytes}
pub use Rattle.laws_commands.specs.LaidFields.{HasLaidFields}
pub use Rattle.laws_commands.specs.Rescued.{BringsUpNoMark, IsRescue, entry_at, failing_lines, log_of}
pub use Rattle.laws_commands.specs.Stores.{StoresDiskAlone, StoresDiskThenLog, StoresFileAlone, StoresFirst, StoresRun, end_stores, state_after, stores_of}
pub use Rattle.laws_commands.specs.Verified.{IsStandardKey, IsUnmistaken, all_told_of}
pub use Rattle.laws_commands.specs.VerifyRuns.{IsEndStatus, verify_report}
pub use Rattle.laws_machine.specs.OnSteps.Ends.{Meets, Recalibrates, RunsNoSeek, pulses_left, seeks}
pub use Rattle.laws_machine.specs.OnSteps.Lasts.{clock_of}
pub use Rattle.laws_machine.specs.OnSteps.Uses.{Uses}
pub use Rattle.machine_commands.specs.Started.{IsFreshBoard}
pub use Rattle.pc_bus.specs.Boards.{Board, IsInRange, controller_of, drive_in, holds_of}
pub use Rattle.raw_image.specs.Disk.{Disk, HasTrack, IsDisk, track_of}
pub use Rattle.raw_image.specs.Image.{Spells, file_of, image_of}
pub use Rattle.rescue.specs.Course.{logged_keys}
pub use Rattle.rescue.specs.Log.{IsLog, log_text}
pub use Rattle.rescue.specs.declared.line.LogLine.{LogLine}
pub use Rattle.sector_map.specs.Disks.{IsOnMap, IsRegularDisk, LookOn}
pub use Rattle.sector_map.specs.Failing.{AreFailing}
pub use Rattle.sector_map.specs.Standard.{key_of, standard_keys}
pub use Rattle.sector_model.specs.Orders.{format_refusal, is_acknowledged, is_bay, is_protected, rate_refusal, read_refusal, write_refusal}
pub use Rattle.sector_model.specs.Plays.{IsText, Plays, World, whole_status}
pub use Rattle.sector_model.specs.Runs.{Ends, Run, Taken, course_lines, has_refusal, requests_of}
pub use Rattle.sector_model.specs.States.{IsSame, State}
pub use Rattle.sector_model.specs.Stations.{IsFresh, StationState, bay_of, met}
pub use Rattle.sector_model.specs.Steps.{IsAbsent, IsImageOf, is_blank_request, most_image_bytes, refusal_of, reply_of}
pub use Rattle.sector_model.specs.Texts.{is_refusal, reply_lines}
pub use Rattle.sector_model.specs.Ties.{HasNothingLeft, IsJob, TiesCounts, accesses_of_job}
pub use Rattle.sector_model.specs.Times.{course_port_accesses, course_time, job_port_accesses, job_time}
pub use Rattle.sector_model.specs.declared.reply.Reason.{Reason}
pub use Rattle.sector_model.specs.declared.reply.Reply.{Reply}
pub use Rattle.text_commands.specs.JobRounds.{world}
pub use Rattle.text_commands.specs.PortFinishes.{Comes, EndInTime}
pub use Rattle.text_commands.specs.PortGuards.{GuardsCourse, SameMedia}
pub use Rattle.track_model.specs.declared.Look.{Look}
