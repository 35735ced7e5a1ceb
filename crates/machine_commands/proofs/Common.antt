-- What the lemmas of this crate use from other crates, and definitions of its own.
pub use Rattle.std.proofs.Math.Seq.{drop-cons, take-set-lt}
pub use Rattle.std.proofs.lemmas.Bool.{and_parts, and_right, cases_lt, false_from_ne_true, false≢true, le-leb, lt-leb, or_parts, or_right, true_from_ne_false}
pub use Rattle.std.proofs.lemmas.Bool.Decides.{eqb_tells, nat_tests}
pub use Rattle.std.proofs.lemmas.List.{append-nil, drop-set-lt, drop-take, ext_get_or, get_or-drop, get_or-set_other, get_or-set_same, get_or-take, get_or_past, length-drop, length-map, length-set, length-take, length-take-le, take-replicate, take-take, take_all, take_more}
pub use Rattle.std.proofs.lemmas.List.Elements.{All-head, All-map, All-rest, All-same}
pub use Rattle.std.proofs.lemmas.List.FromFn.{length-map-range_with_len}
pub use Rattle.std.proofs.lemmas.List.Sums.{count_by-le-length, sum_by-cons}
pub use Rattle.std.specs.Int.{IsBitSet}
pub use Rattle.std.specs.Int.RustNames.{bit_or}
pub use Rattle.std.specs.List.{All, flat_map, range_with_len}
pub use Rattle.std.specs.Option.{option_map_or}
pub use Rattle.dma_8237.specs.Channel.{Channel, after_write, has_bit, reads_memory}
pub use Rattle.dma_8237.specs.SetUp.{set_up}
pub use Rattle.drive_model.proofs.Passing.{becomes_at}
pub use Rattle.drive_model.specs.Drive.{Becomes, DriveState, InRange, at_speed, is_protected, loaded, moved, track_words, turns, unloaded, with_gate, with_motor}
pub use Rattle.fdc_commands.proofs.ReadSpellings.{spells_id, spells_read}
pub use Rattle.fdc_commands.proofs.WriteSpellings.{spells_format, spells_write}
pub use Rattle.fdc_commands.specs.Seeking.{Seeking, after_sense, at_rest, ended, has_ended, is_seeking, neighbour, pulse_due, pulse_of, recalibrated, seek_bits, sensed, sought, stepped_seek, with_motion, with_polls}
pub use Rattle.fdc_commands.specs.Table.{answer, is_begun, kept}
pub use Rattle.fdc_commands.specs.declared.bytes.Accepted.TheVariants.{More, Ready}
pub use Rattle.fdc_commands.specs.declared.command.Command.TheVariants.{Configure, FormatTrack, ReadData, ReadId, Recalibrate, Seek, SenseDrive, SenseInterrupt, Specify}
pub use Rattle.fdc_commands.specs.declared.motion.Motion.{Motion}
pub use Rattle.fdc_commands.specs.declared.motion.Motion.TheVariants.{Ended, Outward, Toward}
pub use Rattle.fdc_commands.specs.declared.results.Results.{Results}
pub use Rattle.fdc_core.proofs.drives.Passing.{drive_stays}
pub use Rattle.fdc_core.specs.Commands.{Obeys, TakesAs, answered, bits_if, configured, sensing_by, specified, status_of_lines}
pub use Rattle.fdc_core.specs.Drives.Following.{sets_lines}
pub use Rattle.fdc_core.specs.Drives.Hearing.{IsCalm}
pub use Rattle.fdc_core.specs.Drives.Lines.{lines_of_drive}
pub use Rattle.fdc_core.specs.Listening.{is_executing}
pub use Rattle.fdc_core.specs.Ports.{Writes, after_read as controller_after, ccr_written, dor_written, given, interrupt_after, is_taking, line_bits, main_status, phase_after, phase_bits, resets, result_byte, takes_in}
pub use Rattle.fdc_core.specs.State.{asks, data_commands_of, dor_of, interrupts, is_gated, is_held, reset}
pub use Rattle.fdc_core.specs.Steps.{EndsIn, Moves, MovesIn, RestsIn, let_pass, polled, seek_stepped, steps_left}
pub use Rattle.fdc_core.specs.declared.controller.Fdc.{Fdc}
pub use Rattle.fdc_core.specs.declared.controller.Lines.{Lines}
pub use Rattle.fdc_phases.specs.Answers.{is_fresh, key_after, results_of, st1_of, st2_of}
pub use Rattle.fdc_phases.specs.Heard.{Sent}
pub use Rattle.fdc_phases.specs.Phases.{is_overrun}
pub use Rattle.fdc_phases.specs.Rates.{rate_fits}
pub use Rattle.fdc_phases.specs.declared.answers.Answer.TheVariants.{Long}
pub use Rattle.fdc_phases.specs.declared.phases.Phase.{Phase}
pub use Rattle.fdc_phases.specs.declared.phases.Phase.TheVariants.{Command, Execute, Result}
pub use Rattle.fdc_stages.specs.Formats.{Numbers}
pub use Rattle.fdc_stages.specs.declared.ending.Ending.{Ending}
pub use Rattle.fdc_stages.specs.declared.ending.Ending.TheVariants.{BadCheck, Done as Finished, Late, NoCount, NoField, NoMark, NoSector, Overrun, Protected}
pub use Rattle.flop_base.proofs.Counted.{drive_same, faults_go_on, goes_on_itself, spends_itself, spends_twice}
pub use Rattle.flop_base.specs.Bays.{Two, both, in_bay, with_bay}
pub use Rattle.flop_base.specs.Counters.{Counters, DriveCounts, DriveGoesOn, DriveTells, GoesOn, IsDriven, IsFaultless, IsPastDriver, IsUndisturbed, faults_of}
pub use Rattle.flop_base.specs.Counts.{RoseBy, Spends, last_count}
pub use Rattle.flop_base.specs.Lists.{with_items}
pub use Rattle.flop_base.specs.Memory.{SameOutside, bytes_from, user_bytes}
pub use Rattle.flop_base.specs.Standard.{read_gap_at, sectors_at, standard_code}
pub use Rattle.flop_base.specs.declared.answers.Code.{Code}
pub use Rattle.flop_base.specs.declared.answers.Rate.{Rate}
pub use Rattle.flop_base.specs.declared.answers.Rate.TheVariants.{R250, R500}
pub use Rattle.flop_base.specs.declared.key.Chrn.{Chrn}
pub use Rattle.floppy_driver.proofs.Lasting.{format_turn, turn_same, write_turn}
pub use Rattle.floppy_driver.specs.Attached.{CanSetUp, IsAttached, IsNoted}
pub use Rattle.floppy_driver.specs.Reading.{FindsField, IsReadCode, IsReadMiss, IsReadReason, ReadsBack, ReadsData, ReadsId, SendsRead}
pub use Rattle.floppy_driver.specs.Rigs.{CostsFor, HeadsStay, IsReset, IsSound, OnlyAsks, Rig, track_under, turn_in}
pub use Rattle.floppy_driver.specs.Shown.{IsFreshDriver, bay_shown, notes_of, with_waiting}
pub use Rattle.floppy_driver.specs.Writing.{ChangesMedium, FormatsTrack, HasTrackUnder, HasWindowOut, IsFormatMiss, IsWriteMiss, LaysMedium, SendsWrite, WritesData}
pub use Rattle.floppy_driver.specs.declared.driver.Driver.{Driver}
pub use Rattle.floppy_driver.specs.declared.driver.Notes.{Notes}
pub use Rattle.irq_events.specs.Entries.{next_entry}
pub use Rattle.irq_events.specs.Holds.{AreShort, Holds, IsShort, counted, shown}
pub use Rattle.irq_events.specs.declared.holding.DmaRequest.TheVariants.{Low}
pub use Rattle.laws_machine.proofs.OnAwaits.Accesses.{goes_begins, goes_status, goes_stray, goes_wait, goes_waits, going}
pub use Rattle.laws_machine.proofs.OnOrders.Ends.{id_ended, id_memory, only, read_ended, read_outside}
pub use Rattle.laws_machine.proofs.OnReads.TrackMet.{met_is}
pub use Rattle.laws_machine.proofs.OnSteps.Lasting.{lasts_clock, lasts_input, lasts_none, lasts_output, lasts_taken, lasts_twice, lasts_unset, lasts_wait, lasts_within}
pub use Rattle.laws_machine.proofs.OnSteps.Runs.{gap, inputs, march_gap, march_wait, unset, wait, waits}
pub use Rattle.laws_machine.proofs.OnSteps.Using.{runs_taken, stays, uses_input, uses_look, uses_none, uses_output, uses_taken, uses_twice, uses_wait, uses_waits, uses_within}
pub use Rattle.laws_machine.proofs.OnSteps.Words.{controller}
pub use Rattle.laws_machine.specs.OnAwaits.Awaits.{IsAwaited, TurnsOn, is_unread}
pub use Rattle.laws_machine.specs.OnAwaits.Goes.{StandsReady, with_one}
pub use Rattle.laws_machine.specs.OnFormats.Results.{AreKeysOf, FitsOn, FormatEndedIn, FormatEndsAs, HasLaying, LaysTo, LaysTurn}
pub use Rattle.laws_machine.specs.OnOrders.Orders.{CanBegin, Identify, IsLast, IsSetFor, Laid, Order, Read, Track, Window, Write}
pub use Rattle.laws_machine.specs.OnReads.Begins.{scene_of}
pub use Rattle.laws_machine.specs.OnReads.Ends.{ends_late, is_late, most_steps_of, steps_taken}
pub use Rattle.laws_machine.specs.OnReads.Scenes.{IsRecorded, IsScene, Scene, data_rate, head_sent, track_met}
pub use Rattle.laws_machine.specs.OnReads.Underway.{HasBytes}
pub use Rattle.laws_machine.specs.OnSteps.Lasts.{Lasts, clock_of}
pub use Rattle.laws_machine.specs.OnSteps.Stalls.{Stalled}
pub use Rattle.laws_machine.specs.OnSteps.Steady.{Marching, Steady, regapped}
pub use Rattle.laws_machine.specs.OnSteps.Uses.{Uses}
pub use Rattle.laws_machine.specs.OnWrites.Results.{HasChanged, IsInsideTrack, IsUnchanged, IsWholeWindow, WriteEndedIn, WriteEndsAs, written_in}
pub use Rattle.machine_commands.specs.Asked.{EndsSeek, ReadsLine, Resets, SendsRecalibrate, SendsSeek, SensesDrive, StartsMotor, TakesPolls, none_on}
pub use Rattle.machine_commands.specs.Awaited.{AreCounts, AwaitsResults, Finishes, Prepares, SendsReadId, SetsAddress, SetsChannel, SetsCount, TakesResults, Watch, Watches, key_told, mark_told, outcome_of, sector_bytes}
pub use Rattle.machine_commands.specs.Codes.{has_set, rate_byte, refusal_of}
pub use Rattle.machine_commands.specs.Flagged.{flags_of, flags_of_both, flags_shown, with_rate}
pub use Rattle.machine_commands.specs.Handled.{Exchanged, ExchangesDrive, PutsIn, PutsMemory, TakesDrive, TakesOut, Untouched}
pub use Rattle.machine_commands.specs.Motored.{with_motor_of}
pub use Rattle.machine_commands.specs.Ready.{AreSeeksOver, HasMotors, IsIdle, IsReady, dor_with, is_up, none_pending}
pub use Rattle.machine_commands.specs.Sending.{Sends, Senses, Settles, TakesNumber, latch_taken}
pub use Rattle.machine_commands.specs.Shown.{board_of, counters_of, is_spun, number_of, page_part, rig_of, rig_shown, stalls_left, user_part}
pub use Rattle.machine_commands.specs.StationShown.{ShowsStation, all_counts, station_shown}
pub use Rattle.machine_commands.specs.WriteSent.{IsKeyAt, OnlyMemory, PutsByte, PutsKey, PutsKeys, SendsFormatBytes, SendsWriteBytes, keys_at, told_of}
pub use Rattle.machine_commands.specs.declared.motors.Motors.{Motors}
pub use Rattle.machine_commands.specs.declared.results.Done.{Done}
pub use Rattle.pc_bus.specs.Boards.{AreSetIfEmpty, Board, IsEmpty, board, channel_of, controller_of, drive_in, holds_of, latch_of, lines_of, memory_of, selected_of}
pub use Rattle.pc_bus.specs.Counts.{counts_of, long_holds}
pub use Rattle.pc_bus.specs.Handling.{byte_set}
pub use Rattle.pc_bus.specs.Ports.{Inputs, Outputs, RunsGap, is_controllers}
pub use Rattle.pc_bus.specs.Steps.{Runs, Step, stirred}
pub use Rattle.pc_bus.specs.Transfers.{shown_again}
pub use Rattle.pc_bus.specs.declared.bus.Bus.{Bus}
pub use Rattle.pc_bus.specs.declared.chips.Chips.{Chips}
pub use Rattle.raw_image.specs.Disk.{Disk, HasTrack, IsDisk, track_of}
pub use Rattle.sector_map.proofs.MetTracks.{length-met_track, met_track, nothing_from, rates_same, same_rates}
pub use Rattle.sector_map.specs.Changes.{Change, Written, window_of}
pub use Rattle.sector_map.specs.Layings.{Format, IsLaying, Laying, format_keys}
pub use Rattle.sector_map.specs.Met.{HasClearAddress, met_in}
pub use Rattle.sector_model.specs.Calls.{Acks, AcksDrive, Ejects, Exchanges, Inserts, IsExchanged, IsUnmoved, RatesTo, SetsMemory, SetsRate, TellsChange}
pub use Rattle.sector_model.specs.Orders.{IsRefusedAtOnce, format_refusal, rate_refusal, read_refusal, write_refusal}
pub use Rattle.sector_model.specs.Stations.{Bay, IsFresh, StationState, Stays, bay_of, fresh_bay, set_bay}
pub use Rattle.track_format.specs.Keys.{key_bytes}
pub use Rattle.track_model.specs.Fields.{IsAddressAt, IsDataMark, IsSizeCode, IsWhole, content_size}
