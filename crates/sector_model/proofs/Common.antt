-- What the lemmas of this crate cite of others, and of its own words.
pub use Rattle.std.proofs.lemmas.List.Sums.{sum_by-append, sum_by-cons}
pub use Rattle.flop_base.proofs.Counted.{drive_same, faults_go_on, goes_on_after, goes_on_itself}
pub use Rattle.flop_base.specs.Counters.{CostsUpTo, Counters, DriveCounts, DriveGoesOn, GoesOn, IsDriven, IsPastDriver, IsUndisturbed, TakesSpare, faults_of}
pub use Rattle.flop_base.specs.Counts.{RoseBy, Spends}
pub use Rattle.flop_base.specs.Shelf.{Files, file_at}
pub use Rattle.flop_base.specs.declared.answers.Code.{Code}
pub use Rattle.flop_base.specs.declared.answers.Status.{Status}
pub use Rattle.floppy_jobs.specs.Texts.{job_of}
pub use Rattle.floppy_jobs.specs.declared.request.Request.{Request}
pub use Rattle.sector_model.specs.Orders.{IsRefusedAtOnce, format_refusal, is_bay, rate_refusal, read_refusal, write_refusal}
pub use Rattle.sector_model.specs.Plays.{BrokenOff, EndStopped, Faulty, IsText, Missing, Played, Plays, PlaysParsed, PlaysRequests, Starved, Stopped, TellsAlone, There, TooLong, World, most_job_bytes}
pub use Rattle.sector_model.specs.Runs.{AtFirst, AtSecond, EndStopsAt, Ends, EndsBay, Left, Run, Stored, Taken, course_lines, has_refusal, requests_of}
pub use Rattle.sector_model.specs.States.{ChangesMedium, IsSame, State}
pub use Rattle.sector_model.specs.Stations.{StationState, bay_of}
pub use Rattle.sector_model.specs.Steps.{AfterStop, Does, IsRefused, Step, StopsAt, refusal_of, unless_bad}
pub use Rattle.sector_model.specs.Ties.{AreUndisturbed, HasNothingLeft, IsJob, IsSpent, OfAllDrives, TellsFaults, TiesCounts, accesses_of, accesses_of_job, all_left, came_with, counters_after, entered, entered_by, faults_since, is_exchange, is_exchange_by, left_by, step_faults, sum_told, told_faults, told_left, told_rise, with_spare}
pub use Rattle.sector_model.specs.declared.reply.Reason.{Reason}
pub use Rattle.sector_model.specs.declared.reply.Reply.{Reply}
pub use Rattle.sector_model.specs.declared.reply.Stop.{Stop}
