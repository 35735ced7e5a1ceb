-- What the lemmas of this crate cite of others, and of its own words.
pub use Rattle.std.proofs.Math.ListN.{get_or-append, length-set}
pub use Rattle.std.proofs.lemmas.Bool.{and_from, and_parts, and_right, cases_Bool, cases_lt, cond-true, cond_both, eqb-false, false_from_ne_true, false≢true, lt-ltb, not_from_false}
pub use Rattle.std.proofs.lemmas.Bool.Decides.{nat_tests}
pub use Rattle.std.proofs.lemmas.List.{append-nil, ext_get_or, get_or-drop, get_or-set_other, get_or-take, get_or_push, length-drop, length-take, take-append-drop, take_all}
pub use Rattle.dma_8237.specs.Channel.{Channel, after_read, after_transfer, after_write, grants, place_of, reads_memory, writes_memory}
pub use Rattle.drive_model.proofs.Passing.{becomes_at}
pub use Rattle.drive_model.specs.Drive.{Becomes, DriveState, Pulses, Writes, at_index, at_speed, can_write, has_track, is_protected, loaded, moved, rate_of, rewritten, track_words, turns, unloaded, with_gate, with_motor}
pub use Rattle.fdc_commands.specs.Seeking.{IsMotion, Seeking, ended, first_pending, has_ended, is_seeking, neighbour, pulse_due, recalibrated, released, seek_bits, sensed, sought, stepped as stepped_seeks, stepped_seek, with_motion, with_polls, without_result}
pub use Rattle.fdc_commands.specs.Table.{answer, kept}
pub use Rattle.fdc_commands.specs.declared.bytes.Accepted.{Accepted}
pub use Rattle.fdc_commands.specs.declared.bytes.Accepted.TheVariants.{Invalid, More, Ready}
pub use Rattle.fdc_commands.specs.declared.command.Command.TheVariants.{FormatTrack, ReadData}
pub use Rattle.fdc_commands.specs.declared.motion.Seek.{Seek}
pub use Rattle.fdc_commands.specs.declared.results.Results.{Results}
pub use Rattle.fdc_core.proofs.MayRead.{out_reads, same_stage, told_reads}
pub use Rattle.fdc_core.proofs.MayWrite.{content_of, in_formats, in_writes, told_formats, told_writes}
pub use Rattle.fdc_core.proofs.Meanings.{id_tells, paced, paced_id, read_tells}
pub use Rattle.fdc_core.proofs.drives.Fields.{address_heard, data_mark_heard, field_heard, found_on, lone_found, mark_heard}
pub use Rattle.fdc_core.proofs.drives.Passing.{drive_stays, write_leaves}
pub use Rattle.fdc_core.proofs.drives.Shifted.{few_led, heard_led, led_none, longer_led, passed_by, still_unheard, time_led, words_led}
pub use Rattle.fdc_core.proofs.drives.Fields.{address_in, address_late, found_late}
pub use Rattle.fdc_core.proofs.drives.Passing.{hearing_on as hearing_since, hearing_over as over_since, length_heard, recorded as recorded_since}
pub use Rattle.fdc_core.proofs.drives.Shifted.{hears_none, no_index, slow_or_fast, spin_on, turning_on}
pub use Rattle.fdc_core.proofs.drives.Turns.{between_is, turn_heard}
pub use Rattle.fdc_core.proofs.drives.Writing.{drive_less, kept_on, rests_on, saw_on, still_unprotected, stopped_on, there_or_not, wrote_on}
pub use Rattle.fdc_core.proofs.drives.WritingWords.{closes_same, heard_met, none_or_some, opens_same}
pub use Rattle.fdc_core.specs.Commands.{Begins, BeginsAsking, BeginsData, Obeys, ObeysAtRest, TakesAs, answered, begun, begun as begun_with, sensing_by}
pub use Rattle.fdc_core.specs.Courses.{Works, WorksAlone}
pub use Rattle.fdc_core.specs.Dma.{asked, asking_told, byte_out, fifo_told, gone_on, taken_in, taken_out, to_memory_of, told_count, with_byte}
pub use Rattle.fdc_core.specs.Drives.Following.{FollowsDor, FollowsMotor, FollowsWrite, sets_lines}
pub use Rattle.fdc_core.specs.Drives.Heard.{AreHeard, IsHeardFrom, IsWholeFrom, place_in, start_of}
pub use Rattle.fdc_core.specs.Drives.Hearing.{IsCalm}
pub use Rattle.fdc_core.specs.Drives.Spinning.{IsUnheard, led, turn_led, turns_led, unheard}
pub use Rattle.fdc_core.specs.Formatting.{FormatDoes, after_laid}
pub use Rattle.fdc_core.specs.Listening.{ExecutesIn, ExecutesTask, Follows, Hears, OverrunsIn, OverrunsTask, SeesTask, SeesUnder, StageHears, StepHears, StepsOn, after_step as past_after, is_executing}
pub use Rattle.fdc_core.specs.Meaning.{FindsUncounted, IdMeans, IdMeansIn, IsPaced, PacedIn, ReadMeans, ReadMeansIn, is_hearing}
pub use Rattle.fdc_core.specs.Ports.{Writes as PortWrites, after_read as controller_after, dor_resets, dsr_resets, given, interrupt_after, is_taking, phase_after, resets, result_byte, takes_in}
pub use Rattle.fdc_core.specs.Reading.{after_heard, after_searched, at_stage, gone_on_reading, is_full, over_or_on, pushed}
pub use Rattle.fdc_core.specs.State.{asks, data_commands_of, dor_of, finished, interrupts, is_gated, is_held, reset}
pub use Rattle.fdc_core.specs.Steps.{EndsIn, FlowsIn, IsCounted, Moves, MovesIn, MovesTask, RestsIn, Stays, let_pass, polled, seek_stepped, steps_left}
pub use Rattle.fdc_core.specs.Times.{Closes, IsHeardTime, IsTime, KeptOut, Opens, Saw, Stopped, WordTime, Wrote, after_time}
pub use Rattle.fdc_core.specs.Writes.{RestsWritten, WritesIn, WritesTask}
pub use Rattle.fdc_core.specs.Writing.{Stops, WriteDoes, after_next, without_byte}
pub use Rattle.fdc_core.specs.Written.{MayFormat, MayWrite}
pub use Rattle.fdc_core.specs.declared.controller.Fdc.{Fdc}
pub use Rattle.fdc_core.specs.declared.controller.Lines.{Lines}
pub use Rattle.fdc_phases.specs.Answers.{after_byte, is_fresh}
pub use Rattle.fdc_phases.specs.Commands.{IsReadingData, IsWritingData, WaitsAtFirst}
pub use Rattle.fdc_phases.specs.Dma.{phase_asks, phase_told, task_asks, task_told}
pub use Rattle.fdc_phases.specs.Heard.{MayReadIdIn, MayReadIdTask, MayReadIn, MayReadTask, Sent, gave, stepped, told_in}
pub use Rattle.fdc_phases.specs.Phases.{ending_of, ending_over, is_listening, is_moving, is_over, is_overrun, is_read, is_reading, overran}
pub use Rattle.fdc_phases.specs.Rates.{rate_chosen, rate_fits}
pub use Rattle.fdc_phases.specs.Waiting.{PhaseWaits, TaskWaits, phase_counted, task_counted}
pub use Rattle.fdc_phases.specs.Writing.{is_ended}
pub use Rattle.fdc_phases.specs.Written.{IsContent, IsFormattingOn, IsWritingOn, MayFormatIn, MayFormatTask, MayWriteIn, MayWriteTask, took}
pub use Rattle.fdc_phases.specs.declared.answers.Answer.{Answer}
pub use Rattle.fdc_phases.specs.declared.answers.Answer.TheVariants.{Long, Short}
pub use Rattle.fdc_phases.specs.declared.phases.Execution.{Execution}
pub use Rattle.fdc_phases.specs.declared.phases.Phase.{Phase}
pub use Rattle.fdc_phases.specs.declared.phases.Phase.TheVariants.{Command, Execute, Result}
pub use Rattle.fdc_phases.specs.declared.phases.Task.{Task}
pub use Rattle.fdc_phases.specs.declared.phases.Task.TheVariants.{Format, Format as Formats, Read as ReadTask, ReadId, Write as WriteTask}
pub use Rattle.fdc_phases.specs.declared.rates.DataRate.{DataRate}
pub use Rattle.fdc_phases.specs.declared.transfers.Formatting.{Formatting}
pub use Rattle.fdc_phases.specs.declared.transfers.Reading.{Reading}
pub use Rattle.fdc_phases.specs.declared.transfers.Writing.{Writing}
pub use Rattle.fdc_registers.specs.Dor.{gate}
pub use Rattle.fdc_registers.specs.Fifo.{Fifo, emptied, low_level, room_of, worth_fetching}
pub use Rattle.fdc_registers.specs.declared.drive_lines.Dor.{Dor}
pub use Rattle.fdc_stages.specs.Findings.{FindsBadCheck, FindsNoField, FindsNoMark, FindsNoSector, FindsSector, HasAddress, IsFoundAt}
pub use Rattle.fdc_stages.specs.Formats.{HasFormatted, HasLaid, IsAtPart, IsBehindFirst, IsFormatting, IsWholeTurn, Numbers, is_first, is_next}
pub use Rattle.fdc_stages.specs.History.{HasFewTurns, IsAmong, IsTurnIn, Past, begun as new_past, heard, kept_out, turns_after, words_heard, words_in, wrote}
pub use Rattle.fdc_stages.specs.Readings.{ReadOutcome}
pub use Rattle.fdc_stages.specs.Searches.{HasNoClear, HasTurned, IsMiss, IsMissed, MissesWell, SearchOutcome}
pub use Rattle.fdc_stages.specs.Writings.{HasBegun, HasNoWindow, HasWritten, IsAtStage, IsFailure, IsFirstOf, IsWhole, IsWriting, is_due as is_word_due, opens}
pub use Rattle.fdc_stages.specs.declared.ending.Ending.{Ending}
pub use Rattle.fdc_stages.specs.declared.ending.Ending.TheVariants.{BadCheck, Done, Late, NoCount, NoField, NoMark, NoSector, Overrun, Protected}
pub use Rattle.fdc_stages.specs.declared.formatting.FormatNext.{FormatNext}
pub use Rattle.fdc_stages.specs.declared.formatting.FormatPart.{FormatPart}
pub use Rattle.fdc_stages.specs.declared.formatting.FormatPart.TheVariants.{Await, Barred, Due, Lay}
pub use Rattle.fdc_stages.specs.declared.reading.ReadStage.{ReadStage}
pub use Rattle.fdc_stages.specs.declared.writing.WriteNext.{WriteNext}
pub use Rattle.fdc_stages.specs.declared.writing.WriteStage.{WriteStage}
pub use Rattle.flop_base.proofs.Counted.{drive_itself, drive_same, drive_twice, spends_itself, spends_twice}
pub use Rattle.flop_base.specs.Counts.{Rose, Spends, last_count}
pub use Rattle.flop_base.specs.Lists.{with_items}
pub use Rattle.flop_base.specs.declared.key.Chrn.{Chrn}
pub use Rattle.irq_events.proofs.InTime.{in_time}
pub use Rattle.irq_events.specs.Entries.{is_stray_due, next_entry, rest_of}
pub use Rattle.irq_events.specs.Holds.{AreShort, Holds, IsInTime, IsReady, IsShort, counted, is_due, looked, shown, stalls_with, waited}
pub use Rattle.irq_events.specs.declared.holding.DmaRequest.{DmaRequest}
pub use Rattle.irq_events.specs.declared.holding.DmaRequest.TheVariants.{High, Low}
pub use Rattle.laws_machine.specs.OnAwaits.Awaits.{HasEnded, HoldsSet, IsAwaited, IsLetOut, TurnsOn, is_unread}
pub use Rattle.laws_machine.specs.OnAwaits.Goes.{CountsOn, EndsSoon, GoesOn, InTime, Listens, StandsReady, with_one}
pub use Rattle.laws_machine.specs.OnFormats.Results.{AreKeysOf, FitsOn, FormatEnded, FormatEndedIn, FormatEndsAs, HasLaying, IsSameOrLaid, LaysTo, LaysTurn, layout_in}
pub use Rattle.laws_machine.specs.OnLead.Leads.{CanWarm, IsGuarded, IsLed, IsSpinning, IsTurningIn, WarmsUp}
pub use Rattle.laws_machine.specs.OnOrders.Orders.{AtDrive, CanBegin, CanBeginAt, Identify, IsDoneBy, IsDoneOn, IsLast, IsSetFor, IsUnderwayOn, Laid, LaysOn, Leaves, May, MayIn, MayLay, MayLayIn, Moves as Moved, Order, Read, Shows, Track, Underway, Window, Write}
pub use Rattle.laws_machine.specs.OnOrders.Results.{Ended, IsFor, Only}
pub use Rattle.laws_machine.specs.OnQuiet.Quiet.{GoesQuietly, HaveTurned, HoldsOn, IsHushed, IsQuiet, StandsStill, Turned, only_listens}
pub use Rattle.laws_machine.specs.OnQuiet.Settings.{ChipsStand, Setting, Stands, setting_of}
pub use Rattle.laws_machine.specs.OnReads.Begins.{IsDriveOf, IsReadyIn, IsSetFor as IsSetForRead, scene_of}
pub use Rattle.laws_machine.specs.OnReads.Ends.{IsGrantedSoon, IsSoonOver, ReadPrompt, ReadSoon, lingers, most_steps, most_steps_of, steps_taken, task_lingers, wait_left}
pub use Rattle.laws_machine.specs.OnReads.Ids.{IdEnded, IdEndedIn, IdEndsAs, IsSetForId, id_scene, sent_id}
pub use Rattle.laws_machine.specs.OnReads.Late.{ends_late, is_late}
pub use Rattle.laws_machine.specs.OnReads.Results.{FindsField, ReadEnded, ReadEndedIn, ReadEndsAs, StaysOutside}
pub use Rattle.laws_machine.specs.OnReads.Scenes.{IsRecorded, IsScene, Scene, data_rate, head_sent, outset_of, track_met}
pub use Rattle.laws_machine.specs.OnReads.Served.{GoesByRule, IsRuled, moves_left}
pub use Rattle.laws_machine.specs.OnReads.Timely.{IsEmptiedInTime, IsPunctualRead, ReadInTime, slack_of}
pub use Rattle.laws_machine.specs.OnReads.Underway.{HasBytes, IsHearing, IsMoved, IsSet}
pub use Rattle.laws_machine.specs.OnSteps.Ends.{Counts, Elapses, IsOver, Meets, Recalibrates, RunsNoSeek, motion_left, pulses_left, seek_left, seeks}
pub use Rattle.laws_machine.specs.OnSteps.Moves.{Acts, Goes, Lasting, read_from}
pub use Rattle.laws_machine.specs.OnSteps.Stalls.{Grows, Keeping, Stalled, UntilStalled}
pub use Rattle.laws_machine.specs.OnSteps.Steady.{Marching, Moving, Progress, Steady, Transferred, regapped}
pub use Rattle.laws_machine.specs.OnWrites.Begins.{write_of}
pub use Rattle.laws_machine.specs.OnWrites.Drives.{IsAtDrive, IsAtWindow, IsThere, start_in}
pub use Rattle.laws_machine.specs.OnWrites.Guards.{GatesDrives, GuardsMedia, HoldsGates, IsGateOf, IsGated, IsGivenIn, LeavesOthers, MakesTask, MakesTime, PassesClosed, is_recording}
pub use Rattle.laws_machine.specs.OnWrites.Heads.{HasNoSeek, IsIdle, IsStill, RestsIdle, StaysIdle, StaysStill}
pub use Rattle.laws_machine.specs.OnWrites.Results.{ChangesTo, ChangesWhole, HasChanged, IsUnchanged, WriteEnded, WriteEndedIn, WriteEndsAs, WritesWell, window_in, written_in}
pub use Rattle.laws_machine.specs.OnWrites.Timely.{IsFedInTime, IsFilling, IsOnTime, IsPunctualWrite, fills, fills_task}
pub use Rattle.laws_machine.specs.OnWrites.Underway.{IsReadSet, IsTaken, range_of, refuses, refuses_as}
pub use Rattle.pc_bus.specs.Boards.{AreSetIfEmpty, Board, IsEmpty, IsInRange, IsNew, IsSetIfEmpty, channel_of, controller_of, drive_in, holds_of, latch_of, lines_of, memory_of, selected_of}
pub use Rattle.pc_bus.specs.Counts.{CountsGoOn, counts_of, long_holds}
pub use Rattle.pc_bus.specs.Handling.{Touches, byte_set, irq_taken}
pub use Rattle.pc_bus.specs.Ports.{Inputs, Outputs, RunsGap, SetsLines, WritesPort, is_controllers, port_read}
pub use Rattle.pc_bus.specs.Steps.{Runs, RunsUnset, Step, Waits, lined, stirred, strayed_if}
pub use Rattle.pc_bus.specs.Transfers.{byte_read, can_move, dma_stepped, granted, looked_at, memory_after, moved_from_memory, moved_to_memory, moved_up_to, shown_again, told_if}
pub use Rattle.pc_bus.specs.declared.chips.Chips.{Chips}
pub use Rattle.raw_image.specs.Disk.{Disk, HasTrack, IsDisk, IsWithTrack, track_of, with_word as with_disk_word}
pub use Rattle.sector_map.proofs.RegularTracks.{length-track_of}
pub use Rattle.sector_map.specs.Met.{HasLook, met_in, same_rate, unrecorded}
pub use Rattle.track_model.proofs.Spans.{intact_of}
pub use Rattle.track_model.specs.Fields.{IsAddressAt, IsSizeCode, content_at, content_size}
pub use Rattle.track_model.specs.Looks.{HasAddressMark, HasDataField, IsIntact}
pub use Rattle.track_model.specs.declared.Look.TheVariants.{BadCrc, NoData}
pub use Rattle.track_separator.specs.Parts.{with_word}
