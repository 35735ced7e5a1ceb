-- What the lemmas of this crate cite of others, and of its own words.
pub use Rattle.std.proofs.Math.ListN.{get_or-append, length-set}
pub use Rattle.std.proofs.lemmas.Bool.{cases_lt, eqb-true, false_from_ne_true, false≢true, ne_eqb}
pub use Rattle.std.proofs.lemmas.Bool.Decides.{nat_tests}
pub use Rattle.std.proofs.lemmas.List.{append-nil, append_assoc, drop-set-add, ext_get_or, get_or-append_right, get_or-drop, get_or-replicate, get_or-set_other, get_or-take, get_or_append_left, get_or_past, get_or_push, length-append, length-drop, length-replicate, length-take, length-take-le, replicate-append-replicate, replicate_more, take-append-drop, take_all, take_more}
pub use Rattle.drive_model.proofs.Passing.{ahead_same, becomes_at}
pub use Rattle.drive_model.specs.Ahead.{AreAhead, words_left}
pub use Rattle.drive_model.specs.Drive.{Becomes, DriveState, InRange, Reads, Writes, at_index, can_write, is_protected, passed, rate_of, rewritten, turns, with_gate, word_under}
pub use Rattle.fdc_commands.specs.Seeking.{Seeking, has_ended, is_seeking, pulse_due, pulse_of, stepped_seek, with_polls}
pub use Rattle.fdc_core.specs.Contents.{HasRoom, HasSpace, TakesByte, TakesBytes, TakesMany, with_bytes}
pub use Rattle.fdc_core.specs.Courses.{HoldsLines, IsQuiet, IsStill, PassesMany, Works, comes_poll}
pub use Rattle.fdc_core.specs.Dma.{asked, asking_told, byte_out, fifo_told, gone_on, taken_in, taken_out, told_count, with_byte}
pub use Rattle.fdc_core.specs.Drives.Heard.{AreHeard, AreHeardWhole, IsHeard, IsHeardFrom, IsHeardWhole, IsWholeFrom, place_in, start_of}
pub use Rattle.fdc_core.specs.Drives.Hearing.{IsHearing, IsRecorded, IsUnder, Outset, track_heard}
pub use Rattle.fdc_core.specs.Drives.Spinning.{IsSpinning, IsTurningIn, IsUnheard, led, turn_led, turns_led, unheard}
pub use Rattle.fdc_core.specs.Drives.Writing.{ArePut, ArePutOpen, HasMedium, HearsTrack, IsAtDrive, IsAtWork, IsThere, start_in}
pub use Rattle.fdc_core.specs.Drives.Written.{IsOver, IsPut, IsPutOpen, Stands}
pub use Rattle.fdc_core.specs.Fields.{heard_words}
pub use Rattle.fdc_core.specs.Formatting.{AwaitsIndex, FormatDoes, IsFormatStep, IsFormatTime, LaysByte, after_laid, format_followed}
pub use Rattle.fdc_core.specs.Heard.{MayRead, MayReadId}
pub use Rattle.fdc_core.specs.Listening.{ExecutesIn, ExecutesTask, FindsFull, Follows, HasStepsLeft, Hears, HearsIn, Listens, ListensToNone, OverrunsIn, OverrunsTask, SearchHears, SeesTask, SeesUnder, SeesWord, StageHears, StepHears, StepsOn, after_step, is_executing}
pub use Rattle.fdc_core.specs.Ports.{Gives, GivesNext, after_read, phase_after, resets, result_byte, value_read}
pub use Rattle.fdc_core.specs.Quiet.{FillsWith, Foresees, GoesOnFor, HasBytesLeft, HasMostLeft, HasNoneWanted, HasSingle, HasSupply, HasWords, HearsWhole, IsCertain, IsCertainOf, IsLongest, IsQuietBy, IsUndisturbed, IsUnmarked, LaysWith, MarksBy, MarksNothing, MayBeMarked, MeetsBy, MeetsNothing, PassNext, ReadsContent, asks_in, asks_soon, lays_for, lays_in, past_with, searches_for, searches_in, steps_left}
pub use Rattle.fdc_core.specs.Reading.{after_heard, after_searched, at_stage, followed, followed_by, gone_on_reading, is_full, over_or_on, pushed, settled, settled_by}
pub use Rattle.fdc_core.specs.State.{asks, finished, is_gated, is_held}
pub use Rattle.fdc_core.specs.Steps.{Ends, EndsIn, Flows, FlowsIn, IsCounted, Moves, MovesDrive, MovesIn, MovesTask, Rests, RestsIn, Stays, let_pass, polled, seek_stepped}
pub use Rattle.fdc_core.specs.Tasks.{ExecutionSteps, IsListenStep, StepsNowhere, TaskSteps, TaskStepsNowhere}
pub use Rattle.fdc_core.specs.Times.{Closes, IsHeardTime, IsTime, IsWroteTime, KeptOut, Opens, Saw, Stopped, WordTime, Wrote, after_time}
pub use Rattle.fdc_core.specs.Transfers.{HearsToWrite}
pub use Rattle.fdc_core.specs.Waiting.{CanWait, Feeds, Lasts, LastsIn, LastsOn}
pub use Rattle.fdc_core.specs.Writes.{RestsWritten, WritesIn, WritesOn, WritesTask}
pub use Rattle.fdc_core.specs.Writing.{HearsAWord, HearsWord, IsWriteStep, IsWriteTime, PutsByte, PutsWord, Stops, StopsWriting, WriteDoes, after_next, byte_taken, fifo_without, gone_or_over, is_end, oldest_of, without_byte}
pub use Rattle.fdc_core.specs.Written.{MayFormat, MayWrite}
pub use Rattle.fdc_core.specs.declared.controller.Fdc.{Fdc}
pub use Rattle.fdc_phases.specs.Answers.{key_after, no_key, results_of}
pub use Rattle.fdc_phases.specs.Dma.{phase_asks, phase_told, task_asks, task_told}
pub use Rattle.fdc_phases.specs.Formatting.{IsFormattingAt, StageLaysWord, is_ended as is_format_ended}
pub use Rattle.fdc_phases.specs.Heard.{HasEndedAs, IdentifiedAs, IsSpent, IsUnderway, MayReadIdIn, MayReadIdTask, MayReadIn, MayReadTask, Sent, gave, sent_of, stepped, told_in}
pub use Rattle.fdc_phases.specs.Phases.{ending_at, ending_of, ending_over, format_at, head_of, is_listening, is_moving, is_over, is_overrun, is_read, is_reading, key_as_sent, mark_of_phase, moves_bytes, over_with, overran, write_at}
pub use Rattle.fdc_phases.specs.Rates.{rate_fits, seen_of}
pub use Rattle.fdc_phases.specs.Waiting.{PhaseWaits, TaskWaits, phase_counted, task_counted}
pub use Rattle.fdc_phases.specs.Writing.{EndsWord, IsWritingAt, StageHearsWord, StageWritesWord, is_ended, write_end, write_over}
pub use Rattle.fdc_phases.specs.Written.{IsHanded, MayFormatIn, MayFormatTask, MayWriteIn, MayWriteTask, took, write_sent}
pub use Rattle.fdc_phases.specs.declared.answers.Answer.TheVariants.{Long, Short}
pub use Rattle.fdc_phases.specs.declared.phases.Execution.{Execution}
pub use Rattle.fdc_phases.specs.declared.phases.Phase.{Phase}
pub use Rattle.fdc_phases.specs.declared.phases.Phase.TheVariants.{Command, Execute, Result}
pub use Rattle.fdc_phases.specs.declared.phases.Task.{Task}
pub use Rattle.fdc_phases.specs.declared.phases.Task.TheVariants.{Format, Read, ReadId, Write}
pub use Rattle.fdc_phases.specs.declared.rates.DataRate.{DataRate}
pub use Rattle.fdc_phases.specs.declared.transfers.Formatting.{Formatting}
pub use Rattle.fdc_phases.specs.declared.transfers.Reading.{Reading}
pub use Rattle.fdc_phases.specs.declared.transfers.Writing.{Writing}
pub use Rattle.fdc_registers.specs.Fifo.{Fifo, low_level, room_of, wants, worth_fetching}
pub use Rattle.fdc_stages.proofs.Ended.{first_written, stopped_formatted, stopped_written, whole_laid, whole_written}
pub use Rattle.fdc_stages.proofs.Lawful.{heard_count, over_full, over_told, reading_told, searching_few, told_most, told_stays, told_taken}
pub use Rattle.fdc_stages.specs.Findings.{FindsBadCheck, FindsNoField, FindsSector, HasAddress, HasIdentified, IsFoundAt}
pub use Rattle.fdc_stages.specs.Formats.{EndsWell, HasFormatted, IsFormatting, IsNextLaid, LaysFirst, Numbers, Takes, format_next, is_first, is_laying, is_next}
pub use Rattle.fdc_stages.specs.History.{HasFewTurns, IsAmong, IsTurnIn, Past, heard, kept_out, place_after, turns_after, words_heard, words_in, wrote}
pub use Rattle.fdc_stages.specs.Leads.{HasLead, LeadsOn}
pub use Rattle.fdc_stages.specs.Readings.{FailsWell, HasHeard, HasMark, HasRead, HearsByte, IsBareField, IsContent, IsFailure, IsReading, IsStart, IsToldOf, KeepsMark, PassesBy, ReadOutcome, mark_at, read_outcome}
pub use Rattle.fdc_stages.specs.Searches.{HasNoClear, HasSearched, HearsNothing, IsBetween, IsMet, IsMiss, IsMissed, IsSearching, IsSearchingIn, MissesWell, SearchOutcome, search_outcome}
pub use Rattle.fdc_stages.specs.Windows.{is_content, lead_behind, lead_from}
pub use Rattle.fdc_stages.specs.Writings.{HasNext, HasWritten, IsNextWord, IsStopped, IsWriting, WritesFirst, handed_with, heard_where, is_due, is_last, is_open, lead_of, needs_byte, opens, rest_behind}
pub use Rattle.fdc_stages.specs.declared.ending.Ending.{Ending}
pub use Rattle.fdc_stages.specs.declared.ending.Ending.TheVariants.{BadCheck, Done, Late, NoCount, NoField, NoMark, NoSector, Overrun, Protected}
pub use Rattle.fdc_stages.specs.declared.formatting.FormatNext.{FormatNext}
pub use Rattle.fdc_stages.specs.declared.formatting.FormatPart.{FormatPart}
pub use Rattle.fdc_stages.specs.declared.formatting.FormatPart.TheVariants.{Due, Lay}
pub use Rattle.fdc_stages.specs.declared.formatting.FormatStage.{FormatStage}
pub use Rattle.fdc_stages.specs.declared.reading.ReadHeard.{ReadHeard}
pub use Rattle.fdc_stages.specs.declared.reading.ReadStage.{ReadStage}
pub use Rattle.fdc_stages.specs.declared.reading.ReadStage.TheVariants.{Content, Over, Wait}
pub use Rattle.fdc_stages.specs.declared.searching.Search.{Search}
pub use Rattle.fdc_stages.specs.declared.writing.WriteNext.{WriteNext}
pub use Rattle.fdc_stages.specs.declared.writing.WriteStage.{WriteStage}
pub use Rattle.flop_base.specs.Counts.{CanTell, Rose, Spends, last_count}
pub use Rattle.flop_base.specs.declared.key.Chrn.{Chrn}
pub use Rattle.raw_image.specs.Disk.{Disk, HasTrack, IsDisk, IsWithTrack, track_of, track_start, with_word as with_word_on}
pub use Rattle.sector_map.proofs.RegularTracks.{length-track_of}
pub use Rattle.track_model.specs.Fields.{HasCheck, IsAddressAt, IsDataMark, IsSizeCode, IsWhole, after_marks, content_at, content_size, data_cells}
pub use Rattle.track_model.specs.Looks.{HasDataField, IsIntact, LookAt}
pub use Rattle.track_model.specs.Marks.{IsAddressMark, IsDataRun, IsRun, IsSound}
pub use Rattle.track_model.specs.Sectors.{IsLone, IsPlain}
pub use Rattle.track_model.specs.declared.Look.TheVariants.{BadCrc, Found, NoData}
pub use Rattle.track_separator.proofs.Lawful.{address_stays, data_mark_stays, length-with_word, part_with_word, reads_mark, reads_within, run_ends, waits_early, waits_mark}
pub use Rattle.track_separator.specs.Parts.{IsPart, turn_after, with_word}
pub use Rattle.track_separator.specs.declared.state.Separator.{Separator}
