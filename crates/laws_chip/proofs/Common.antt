-- What the lemmas of this crate cite of others, and of its own words.
pub use Rattle.std.proofs.Math.ListN.{get_or-append}
pub use Rattle.std.proofs.Math.Nat.{mul-le-mul_right, suc-mul}
pub use Rattle.std.proofs.lemmas.Bool.{agree_below_at, and_from, and_left, and_parts, and_right, cases_lt, cases_order, eq-eqb, eqb-false, eqb-true, false_from_ne_true, false≢true, le-leb, leb-false, leb-true, ltb-true, ne_eqb, not-false, not-true, or_cases, or_from, or_parts, or_right}
pub use Rattle.std.proofs.lemmas.Bool.Decides.{nat_tests}
pub use Rattle.std.proofs.lemmas.List.{append-nil, ext_get_or, flat_map_more, get_or-append_right, get_or-replicate, get_or-set_other, get_or-set_same, get_or-take, length-replicate, length-set, length-take, nil_from_length}
pub use Rattle.std.specs.Option.{ForSome, option_map, option_map_or}
pub use Rattle.drive_model.specs.Drive.{Becomes, DriveState, at_index, is_protected, rate_of}
pub use Rattle.fdc_chip.specs.Answers.{answer_bytes, is_of_data}
pub use Rattle.fdc_chip.specs.Chips.{ChipState, IsNewChip, KeepsRest, asks_chip, interrupts_chip, is_data, passes, passes_at, passes_by_channel, passes_by_port, shows_behind, with_front}
pub use Rattle.fdc_chip.specs.Codes.{code_of, parameters}
pub use Rattle.fdc_chip.specs.Doing.{Attends, AttendsIf, AttendsTo, Begins, BeginsReadId, FormatsIf, GivesOn, Moves, MovesIf, Obeys, Opens, Refuses, RemembersIf, Transfers, TransfersIf, absent_key, begun, configured, configured as chip_configured, configuring, drained, drained_by, drained_one, formatting, identifying, implies, is_moving, is_size, is_told, kept, moves_heads, moving, needs_heads, no_key, pace_begun, reading_one, ready, relative_target, sectors_of_track, sectors_verified, sensing, sought_if, track_begun, transfer_sent, verifying, with_keys, with_last}
pub use Rattle.fdc_chip.specs.Ending.{Ends, EndsAddress, EndsAddressIf, EndsAs, EndsAt, EndsData, EndsIndex, EndsSent, LooksOn, MayEnd, ReadsOn, as_done, cylinder_bits, done_if, fits_selected, has_key, has_room, is_not_found, is_over, judged, looks_for_cylinder, met_key, results_judged, says_cut, sector_met, told_results, track_at, unit_of, verified, with_cylinder_passed, without_one}
pub use Rattle.fdc_chip.specs.Interrupts.{Interrupting, cylinder_of, status_of, with_result}
pub use Rattle.fdc_chip.specs.Orders.{is_format, with_byte}
pub use Rattle.fdc_chip.specs.Paces.{EndsAt as EndsPace, GoesOnIf, Paces, PulsesIf, is_due, is_over as is_over_pace, target_of, stepped as chip_stepped}
pub use Rattle.fdc_chip.specs.Ports.{CollectsIf, ComesIf, GivesChipIf, GivesIf, ReadsAt, ReadsChip, ReadsIf, TakesByte, TakesIf, WritesChip, byte_told, counted_if, given_one, is_whole, latched_by, may_come, quieted_if, reset_if, told_chip, value_behind, with_next, count_told as chip_count_told}
pub use Rattle.fdc_chip.specs.Settings.{is_by_port, step_words}
pub use Rattle.fdc_chip.specs.Steps.{Follows, FollowsTask, RunsChip, StepsChip, Swallows, SwallowsAs}
pub use Rattle.fdc_chip.specs.declared.answer.ChipAnswer.{ChipAnswer}
pub use Rattle.fdc_chip.specs.declared.code.ChipOpcode.{ChipOpcode}
pub use Rattle.fdc_chip.specs.declared.code.ChipOpcode.TheVariants.{Configure, DumpRegisters, FormatTrack, Lock, Perpendicular, ReadId, ReadTrack, Recalibrate, RelativeSeek, Seek, SenseInterrupt, Specify, Transfer as TransferCode, Verify, Verify as VerifyCode, Version}
pub use Rattle.fdc_chip.specs.declared.order.Order.{Order}
pub use Rattle.fdc_chip.specs.declared.pace.PacedSeek.{PacedSeek}
pub use Rattle.fdc_chip.specs.declared.settings.Settings.{Settings}
pub use Rattle.fdc_chip.specs.declared.stage.ChipStage.{ChipStage}
pub use Rattle.fdc_chip.specs.declared.stage.ChipStage.TheVariants.{Busy, Held, Ready, Telling as ChipTelling}
pub use Rattle.fdc_chip.specs.declared.stage.ChipTask.{ChipTask}
pub use Rattle.fdc_chip.specs.declared.stage.ChipTask.TheVariants.{Sent as SentTask, Sought}
pub use Rattle.fdc_chip.specs.declared.stage.Place.{Place}
pub use Rattle.fdc_chip.specs.declared.stage.Place.TheVariants.{Address, Data, Index}
pub use Rattle.fdc_chip.specs.declared.stage.Track.{Track}
pub use Rattle.fdc_commands.specs.Seeking.{IsMotion, Seeking as Seeks, after_sense, at_rest, ended, first_pending, has_ended, has_ended_seek, is_seeking, neighbour, pulses_within, recalibrated, released, seek_bits, sensed, sought, stepped_seek, with_motion, with_polls, without_ended, stepped as commands_stepped}
pub use Rattle.fdc_commands.specs.Table.{is_begun, whole}
pub use Rattle.fdc_commands.specs.declared.bytes.Accepted.TheVariants.{Invalid, Ready as ReadyCommand}
pub use Rattle.fdc_commands.specs.declared.command.Command.{Command}
pub use Rattle.fdc_commands.specs.declared.command.Command.TheVariants.{ReadData, Seek as SeekCommand, WriteData, WriteDeleted, FormatTrack as CommandFormatTrack, ReadId as CommandReadId}
pub use Rattle.fdc_commands.specs.declared.motion.Motion.{Motion}
pub use Rattle.fdc_commands.specs.declared.motion.Motion.TheVariants.{Ended, Outward, Toward}
pub use Rattle.fdc_commands.specs.declared.motion.Seek.{Seek as DriveSeek}
pub use Rattle.fdc_commands.specs.declared.results.Results.{Results}
pub use Rattle.fdc_core.proofs.MayRead.{out_reads, same_stage, starts, starts_given, told_reads}
pub use Rattle.fdc_core.proofs.MayWrite.{in_formats, in_writes, told_formats, told_writes, writes_on}
pub use Rattle.fdc_core.proofs.Tellings.{format_tells, lays_track, write_tells, writes_window}
pub use Rattle.fdc_core.proofs.drives.Fields.{address_heard, data_field_on, data_mark_back, data_mark_heard, data_mark_on, field_heard, intact_on, whole_back, whole_shifted}
pub use Rattle.fdc_core.proofs.drives.Shifted.{few_led, heard_led, led_none, length_front, longer_led, passed_by, still_unheard, time_led, turn_of_led}
pub use Rattle.fdc_core.proofs.drives.Fields.{address_in, address_late, found_late}
pub use Rattle.fdc_core.proofs.drives.Shifted.{shifted_bytes_at}
pub use Rattle.fdc_core.proofs.drives.Shifted.{hearing_none, hears_none, no_index, no_index as spins_on, slow_or_fast, turning_on}
pub use Rattle.fdc_core.proofs.drives.Turns.{between_is, turn_heard}
pub use Rattle.fdc_core.proofs.drives.Writing.{drive_less, kept_on, rests_on, saw_on, still_unprotected, stopped_on, wrote_on}
pub use Rattle.fdc_core.proofs.drives.WritingWords.{heard_met}
pub use Rattle.fdc_core.specs.Commands.{BeginsData, ObeysAtRest, TakesAs, answered, recalibrating, seeking, seeking as seeking_to, sensing_by, Obeys as FdcObeys}
pub use Rattle.fdc_core.specs.Courses.{Works}
pub use Rattle.fdc_core.specs.Dma.{asking_told, byte_out, fifo_told, taken_in, taken_out, to_memory_of, told_count}
pub use Rattle.fdc_core.specs.Drives.Following.{FollowsDor, FollowsWrite}
pub use Rattle.fdc_core.specs.Drives.Heard.{IsHeardFrom, IsHeardWhole, IsWholeFrom, start_of}
pub use Rattle.fdc_core.specs.Drives.Hearing.{IsHearing, IsRecorded, Outset, track_heard}
pub use Rattle.fdc_core.specs.Drives.Spinning.{IsSpinning, IsTurningIn, IsUnheard, led, turn_led, turns_led, unheard}
pub use Rattle.fdc_core.specs.Drives.Writing.{ArePut, IsAtDrive, IsAtWindow, start_in}
pub use Rattle.fdc_core.specs.Fields.{ReadsField, address_words, heard_words}
pub use Rattle.fdc_core.specs.Formatting.{FormatDoes, after_laid}
pub use Rattle.fdc_core.specs.Listening.{ExecutesIn, ExecutesTask, SeesTask, SeesUnder, SeesWord, StepsOn, after_step, is_executing, Follows as FollowsWord}
pub use Rattle.fdc_core.specs.Meaning.{AreOfField, ReadMeans, ReadMeansIn, bytes_held}
pub use Rattle.fdc_core.specs.Ports.{Writes, dor_resets, dsr_resets, given, is_taking, main_status, phase_bits, resets, takes_in}
pub use Rattle.fdc_core.specs.Ranges.{IsInRange}
pub use Rattle.fdc_core.specs.Reading.{after_heard, after_searched, at_stage, gone_on_reading, is_full, over_or_on, pushed}
pub use Rattle.fdc_core.specs.State.{asks, finished, is_gated, is_held, reset}
pub use Rattle.fdc_core.specs.Steps.{EndsIn, FlowsIn, IsCounted, MovesIn, MovesTask, Rests, RestsIn, Stays, let_pass, polled, seek_stepped, steps_left as core_steps_left}
pub use Rattle.fdc_core.specs.Tasks.{FormatsNowhere, StepsNowhere, TaskStepsNowhere, WritesNowhere}
pub use Rattle.fdc_core.specs.Times.{Closes, IsHeardTime, IsTime, KeptOut, Saw, Stopped, WordTime, Wrote, after_time}
pub use Rattle.fdc_core.specs.Whole.{TakesWhole, ending_told, given_up, given_up_if, is_idle, looked_at, mark_of, results_of_phase, without_seek}
pub use Rattle.fdc_core.specs.Writes.{WritesIn, WritesTask}
pub use Rattle.fdc_core.specs.Writing.{Stops, WriteDoes, after_next, without_byte}
pub use Rattle.fdc_core.specs.Written.{MayFormat, MayWrite}
pub use Rattle.fdc_core.specs.declared.controller.Fdc.{Fdc}
pub use Rattle.fdc_core.specs.declared.controller.Lines.{Lines}
pub use Rattle.fdc_phases.specs.Answers.{results_of, st1_of, no_key as phases_no_key}
pub use Rattle.fdc_phases.specs.Commands.{IsFormattingTrack, IsReadingData, IsReadingId}
pub use Rattle.fdc_phases.specs.Dma.{phase_asks, phase_told, task_asks, task_told}
pub use Rattle.fdc_phases.specs.Heard.{MayReadIdIn, MayReadIdTask, MayReadIn, MayReadTask, Sent, gave, key_met, results_sent, stepped, told_in}
pub use Rattle.fdc_phases.specs.Phases.{ending_of, ending_of_phase, ending_over, head_of, is_listening, is_overrun, is_read, is_reading, mark_in, mark_of_phase, moves_bytes, overran, is_moving as phases_is_moving, is_over as phases_is_over}
pub use Rattle.fdc_phases.specs.Rates.{rate_chosen, rate_fits}
pub use Rattle.fdc_phases.specs.Written.{IsContent, IsFormattingOn, IsWritingOn, MayFormatIn, MayFormatTask, MayWriteIn, MayWriteTask, took}
pub use Rattle.fdc_phases.specs.declared.answers.Answer.TheVariants.{Long, Short}
pub use Rattle.fdc_phases.specs.declared.phases.Phase.{Phase}
pub use Rattle.fdc_phases.specs.declared.phases.Phase.TheVariants.{Command as Taking, Execute, Result}
pub use Rattle.fdc_phases.specs.declared.phases.Task.{Task}
pub use Rattle.fdc_phases.specs.declared.phases.Task.TheVariants.{Format, Read as ReadTask, Write as WriteTask, ReadId as TaskReadId}
pub use Rattle.fdc_phases.specs.declared.rates.DataRate.{DataRate}
pub use Rattle.fdc_phases.specs.declared.transfers.Formatting.{Formatting}
pub use Rattle.fdc_phases.specs.declared.transfers.Reading.{Reading}
pub use Rattle.fdc_phases.specs.declared.transfers.Writing.{Writing}
pub use Rattle.fdc_registers.specs.Fifo.{Fifo, emptied, low_level, room_of, wants, worth_fetching}
pub use Rattle.fdc_registers.specs.St1.{missing_mark, overrun}
pub use Rattle.fdc_registers.specs.declared.drive_lines.Dor.{Dor}
pub use Rattle.fdc_sequencer.specs.AdapterSenses.{after_result, without_result}
pub use Rattle.fdc_sequencer.specs.Adapters.{AdapterState, StepsAdapter, WritesAdapter, drive_at, lines_at, selected_at, Takes as AdaptersTakes}
pub use Rattle.fdc_sequencer.specs.Fronts.{BeginsSector, Commands, CommandsIf, Front, GivesAt, GivesCommand, GivesFront, GivesMoving, GivesTransfer, KeepsFront, ReadsSector, SeeksFirst, Starts, StartsIf, TakesAt, TakesFront, TakesMoving, WritesFront, asks_at, asks_outside, begun_if, count_told, count_told as front_told, interrupts_at, interrupts_outside, is_ready, is_ready as is_ready_behind, is_ready_at, is_through, moving_of, passed_one, results_at, results_outside, results_taken, sector_alone, seeking_bit, status_at, taken_at, told_front, told_if, value_outside, with_controller, TransfersIf as FrontTransfersIf, reset_if as front_reset_if}
pub use Rattle.fdc_sequencer.specs.Moves.{EndsIf, EndsSector, FollowsStep, MovesOn, SeeksOn, StepsFront, goes_on, has_failed_other, has_met_other, is_bad_other, is_unwanted, judged_if, passed_over_if, results_behind, results_failed, would_go_on, judged as front_judged}
pub use Rattle.fdc_sequencer.specs.Senses.{pending_outside, recalibrated_at, recalibrated_outside, sensed_at, sensed_outside}
pub use Rattle.fdc_sequencer.specs.Transfers.{command_for, command_of, is_last, is_other, is_second_head, is_skipping, next_cylinder, next_of, next_record, other_head, other_mark, results_told, size_of, transfer_with}
pub use Rattle.fdc_sequencer.specs.declared.opcode.Operation.{Operation}
pub use Rattle.fdc_sequencer.specs.declared.opcode.Operation.TheVariants.{Read, Write}
pub use Rattle.fdc_sequencer.specs.declared.stage.FrontStage.{FrontStage}
pub use Rattle.fdc_sequencer.specs.declared.stage.FrontStage.TheVariants.{Moving, Seeking, Telling, Through}
pub use Rattle.fdc_sequencer.specs.declared.stage.Moving.{Moving as MovingSector}
pub use Rattle.fdc_sequencer.specs.declared.transfer.Transfer.{Transfer}
pub use Rattle.fdc_stages.specs.Findings.{FindsBadCheck, FindsNoField, FindsSector, HasAddress, HasIdentified, IsWithoutData}
pub use Rattle.fdc_stages.specs.Formats.{EndsWell, FailsWell, IsAtPart, Numbers, is_first, is_next}
pub use Rattle.fdc_stages.specs.History.{Past, begun as new_past, heard, kept_out, turns_after, wrote}
pub use Rattle.fdc_stages.specs.Readings.{HasHeard, HasMark, IsOver, IsReading, IsToldFrom, IsToldOf, KeepsMark, ReadOutcome, mark_at}
pub use Rattle.fdc_stages.specs.Searches.{HasNoClear, HasTurned, IsBetween, SearchOutcome}
pub use Rattle.fdc_stages.specs.Writings.{HasBegun, IsAtStage, IsFirstOf, IsWriting, WritesWhole, is_open, needs_byte, opens, is_due as stages_is_due}
pub use Rattle.fdc_stages.specs.declared.ending.Ending.{Ending}
pub use Rattle.fdc_stages.specs.declared.ending.Ending.TheVariants.{BadCheck, Done, Late, NoCount, NoField, NoMark, NoSector, Overrun, Protected}
pub use Rattle.fdc_stages.specs.declared.formatting.FormatNext.{FormatNext}
pub use Rattle.fdc_stages.specs.declared.writing.WriteNext.{WriteNext}
pub use Rattle.fdc_stages.specs.declared.writing.WriteNext.TheVariants.{On, Ended as WriteNextEnded}
pub use Rattle.fdc_stages.specs.declared.writing.WriteStage.{WriteStage}
pub use Rattle.flop_base.specs.Counts.{last_count}
pub use Rattle.flop_base.specs.declared.key.Chrn.{Chrn}
pub use Rattle.laws_chip.specs.Beginning.{BeginsBehind, BeginsUnless, Completes, CompletesTransfer, IsBegun, IsDoneFree, IsFreeBehind, IsHeldFor, IsOfFour, IsServed, IsTransferOf, completed, spelled_opcode, still_moves}
pub use Rattle.laws_chip.specs.Bounds.{AreSeeking, AreUses, AreWithoutReset, AreWorking, EndsAmong, HasRanges, HeadsGoOn, HeadsMove, IsGiven, IsUsed, IsWorking, StaysHeld, WaitsFor, has_command, heads_go, heads_of, heads_steps, is_executed, most_steps_of, sectors_of, seek_steps, wait_at, wait_of}
pub use Rattle.laws_chip.specs.Calls.{AreMade, ArePassedOn, AreServed, Call, Does, IsPassedOn, IsServing, Makes, MakesRead, MakesWrite, WritesByte, is_data_access, is_reset, is_step, only_if, steps_in, steps_of}
pub use Rattle.laws_chip.specs.Identifying.{IsIdBegun, StaysUnder, TurnsOnBy, is_read_id}
pub use Rattle.laws_chip.specs.Lasting.{AreAt, AreTracked, AreVerified, IsVerifying, most_track_steps}
pub use Rattle.laws_chip.specs.Media.{AreOnMedium, BeginsOnTrack, HasMarkOnTrack, HasOnTrack, IsAt, IsAtWhile, IsClean, IsOnMedium, IsReadFrom, StaysIn, TurnsOn, TurnsOnIn, track_under, Place as MediumPlace}
pub use Rattle.laws_chip.specs.Outcomes.{EndsSo, HasField, IsFailure, IsFieldWith, IsJudged, IsMovedBut, PassedWhole, PassesOfSector, ResultsSay, StopsBehind, TellsOther}
pub use Rattle.laws_chip.specs.PacedSeeks.{GoesBehind, HeadsPaced, StandsBehind, completes, most_left, most_paced, pulses_left, pulses_to}
pub use Rattle.laws_chip.specs.Resets.{AwaitsPoll, HasPolls, IsFreshBehind, is_of_data_port, polls_from, telling_poll}
pub use Rattle.laws_chip.specs.SectorCalls.{AreWithin, Behind, Changes, Counts, Gather, Gives, Grows, Reads, Served, Steps, Takes, is_count, is_counted, passed_in_all, Begins as SectorCallsBegins, Call as SectorCallsCall, Does as SectorCallsDoes, Writes as SectorCallsWrites, passed_by as chip_passed_by}
pub use Rattle.laws_chip.specs.SectorLasting.{HasByteNumbers, HasByteRecords, HasRecords, HasResults, goes_to_other, is_under_way, most_steps, records_from, sectors_from, steps_in as chip_steps_in}
pub use Rattle.laws_chip.specs.Seeks.{EndsBySignal, GoesTo, HeadsGo, HeadsStand, IsSoundInRange, SeeksBehind, goal_of, most_of, status_at_end, steps_left, waits_for_heads}
pub use Rattle.laws_chip.specs.Serving.{Accounts, AreLeft, AreMoved, BeginsServing, Carries, FindsBadField, FindsField, GoesOn, HasBadField, HasFieldIn, History, IsFieldDone, IsFree, IsLastOne, IsMarkOf, IsMoved, IsMovedWhole, IsNowhere, IsOfOther, IsOfSector, IsPassedOver, IsRefused, IsTimeOf, IsWholeField, KeepsServing, MayMove, Means, MeansJudged, Part, Passes, PassesAt, RefusesFirst, Serves, ServesAt, ServesCounted, ServesStep, ServesUnless, StepsTo, StopsAtEnd, all_bytes, bytes_moved, bytes_of_parts, has_other, has_results, hears_count, history_counted, history_ended, history_given, history_moved, history_passed, history_sought, history_stepped, history_taken, nothing_moved, passed_in, passed_out, results_ended, sector_after, sent_of, still_seeks}
pub use Rattle.laws_chip.specs.Sound.{ExecutesBehind, IsBusyAt, IsBusyWith, IsSound, IsSoundAt, RestsBehind, ServesBehind, WaitsForHeads, executes_single, is_single}
pub use Rattle.laws_chip.specs.Told.{AddsCylinder, AreOfCylinder, IsBusyOrTells, LooksFor, LooksOrTells, Tells}
pub use Rattle.laws_chip.specs.Written.{AreWritten, HasFirst, HasWindow, HasWords, IsDone, IsOverCylinder, IsOverCylinderWhile, IsWrittenTo, KeepsIn, KeepsSpeed, KeepsSpeedWhile, LeavesPut, StaysPut, TellsDone, track_on, IsBegun as WrittenIsBegun}
pub use Rattle.raw_image.specs.Disk.{Disk, IsDisk, IsWithTrack}
pub use Rattle.track_model.specs.Fields.{IsAddressAt, IsSizeCode, content_at, content_size}
pub use Rattle.track_model.specs.Looks.{HasAddressMark, HasDataField, IsFirstDataMark, IsIntact, LookAt}
pub use Rattle.track_model.specs.declared.Look.TheVariants.{BadCrc, NoData}
pub use Rattle.track_separator.specs.Parts.{IsPart, with_word}
