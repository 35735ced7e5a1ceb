-- What the lemmas of this crate cite of others, and of its own words.
pub use Rattle.std.proofs.lemmas.List.{take-append-drop, take_more}
pub use Rattle.std.specs.Option.{MatchOption}
pub use Rattle.std.specs.declared.alloc.Global.{Global}
pub use Rattle.bios_int13.specs.Services.{AcksAlone, All, DoesWork, MovesIn, MovesRecords, Serves, UpToOne, put_request, record_request}
pub use Rattle.bios_int13.specs.declared.work.Kind.{Kind}
pub use Rattle.bios_int13.specs.declared.work.Kind.TheVariants.{Read, Verify, Write}
pub use Rattle.bios_int13.specs.declared.work.Work.{Work}
pub use Rattle.bios_int13.specs.declared.work.Work.TheVariants.{Answer, Changed, Move}
pub use Rattle.commands.proofs.DumpLines.{grown-nothing, grown-twice}
pub use Rattle.commands.proofs.Looping.{amid_begins, amid_ends, amid_goes}
pub use Rattle.commands.specs.Leading.{AsksOne, IsAmid, LoadsText, PutsLines, Runs}
pub use Rattle.commands.specs.Texts.{MissesText}
pub use Rattle.flop_base.specs.Shelf.{Files, Loads}
pub use Rattle.flop_base.specs.Sink.{GrowsByPart, grown}
pub use Rattle.flop_base.specs.declared.answers.LoadError.{LoadError}
pub use Rattle.flop_base.specs.declared.answers.Status.{Status}
pub use Rattle.floppy_jobs.specs.LinesRead.{ReadsText}
pub use Rattle.floppy_jobs.specs.Texts.{calls_of, job_of, job_of as parsed_of, ports_of}
pub use Rattle.floppy_jobs.specs.Valid.{IsRequest}
pub use Rattle.floppy_jobs.specs.declared.calls.CallLine.{CallLine}
pub use Rattle.floppy_jobs.specs.declared.lines.JobError.{JobError}
pub use Rattle.floppy_jobs.specs.declared.ports.PortLine.{PortLine}
pub use Rattle.floppy_jobs.specs.declared.request.Request.{Request}
pub use Rattle.floppy_session.specs.Tries.{HasTries}
pub use Rattle.laws_machine.proofs.OnSteps.Runs.{inputs, outputs, wait}
pub use Rattle.laws_machine.proofs.OnWrites.Guards.{guarding, step_guards}
pub use Rattle.laws_machine.specs.OnSteps.Steady.{Steady}
pub use Rattle.pc_bus.specs.Boards.{Board, IsInRange, board, drive_in}
pub use Rattle.pc_bus.specs.Handling.{Touches, irq_taken}
pub use Rattle.pc_bus.specs.Ports.{Inputs, Outputs, WritesPort}
pub use Rattle.pc_bus.specs.Steps.{stirred}
pub use Rattle.sector_model.proofs.Runs.{refusal_more, requests_more, run_more, text_more}
pub use Rattle.sector_model.specs.Orders.{IsRefusedAtOnce, is_acknowledged, is_bay, read_refusal, write_refusal}
pub use Rattle.sector_model.specs.Plays.{EndStopped as PlayEndStopped, IsPutFault, IsText, Played, PlaysRequests, Prints, Tells, World, whole_status}
pub use Rattle.sector_model.specs.Runs.{Run, Taken, course_lines, has_refusal, requests_of}
pub use Rattle.sector_model.specs.States.{IsSame, State}
pub use Rattle.sector_model.specs.Steps.{Does, Step, StopCause, refusal_of}
pub use Rattle.sector_model.specs.Texts.{bad_line_text, is_refusal, reply_lines, stop_lines, stop_status}
pub use Rattle.sector_model.specs.declared.reply.Reason.{Reason}
pub use Rattle.sector_model.specs.declared.reply.Reply.{Reply}
pub use Rattle.sector_model.specs.declared.reply.Stop.{Stop}
pub use Rattle.text_commands.specs.Benches.{AreNamed, Bench, Names, bench_of, is_loaded, no_names}
pub use Rattle.text_commands.specs.CallCourses.{Broken, EndStopped, Faulty, Missing, ServesCalls, ServesLines, ServesParsed, Starved, There, Through, TooLong}
pub use Rattle.text_commands.specs.CallLines.{AsParsed, HasBroken, HasServed, IsCallOf, LineGoes, LineHasTries, ServesOrStarves, Serving, Starving}
pub use Rattle.text_commands.specs.CallRounds.{AreRounds, AtPut, AtStop, Breaks, IsRound, Round, course_of, has_refused, lines_of, rounds_lines}
pub use Rattle.text_commands.specs.CallTexts.{call_text}
pub use Rattle.text_commands.specs.Ending.{AtStore, EndsAs, InWhole}
pub use Rattle.text_commands.specs.JobRounds.{AtPut as AtAnswer, AtStop as AtRequest, HasPlayed, HasRun, PlaysOrStarves, RoundGoes, world}
pub use Rattle.text_commands.specs.PortCourses.{AtFirst, AtSecond, BayGoes, EndGoes, EndStopsAt, EndsBay, Left, PortRun, Stored, waits_of}
pub use Rattle.text_commands.specs.PortGuards.{GuardsBay, GuardsCourse, GuardsLine, RunsPorts, SameMedia}
pub use Rattle.text_commands.specs.PortLines.{DoesLine, IsRefused, LoadsMedium, StopsAt, StoresMedium, eject_refusal, insert_refusal, waits_in}
pub use Rattle.text_commands.specs.PortPlays.{BrokenOff, IsIdle, Plays, PlaysLines, PlaysParsed, Stopped, world_of}
pub use Rattle.text_commands.specs.declared.ports.answer.LineAnswer.{LineAnswer}
