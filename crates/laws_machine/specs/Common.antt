-- What the words of this crate cite of others.
pub use Rattle.dma_8237.specs.Channel.{Channel, after_read, after_write, grants, place_of, reads_memory, writes_memory}
pub use Rattle.drive_model.specs.Drive.{Becomes, DriveState, Writes, at_speed, is_protected, track_words, with_gate}
pub use Rattle.fdc_commands.specs.Seeking.{Seeking, is_seeking, seek_bits}
pub use Rattle.fdc_commands.specs.Table.{answer}
pub use Rattle.fdc_commands.specs.declared.bytes.Accepted.TheVariants.{More, Ready}
pub use Rattle.fdc_commands.specs.declared.command.Command.TheVariants.{FormatTrack, ReadData, ReadId, WriteData, WriteDeleted}
pub use Rattle.fdc_commands.specs.declared.results.Results.{Results}
pub use Rattle.fdc_core.specs.Drives.Hearing.{IsCalm, IsHearing as IsHearingSince, IsRecorded as IsRecordedSince, Outset, track_heard}
pub use Rattle.fdc_core.specs.Listening.{is_executing}
pub use Rattle.fdc_core.specs.Ports.{IsGiving, is_taking, phase_after, result_byte}
pub use Rattle.fdc_core.specs.State.{data_commands_of, dor_of, is_gated, is_held}
pub use Rattle.fdc_core.specs.Steps.{IsCounted, Moves, let_pass, polled, steps_left}
pub use Rattle.fdc_core.specs.declared.controller.Fdc.{Fdc}
pub use Rattle.fdc_phases.specs.Answers.{is_fresh, no_key, results_of}
pub use Rattle.fdc_phases.specs.Dma.{phase_asks}
pub use Rattle.fdc_phases.specs.Heard.{MayReadIdIn, MayReadIn, Sent, key_met, results_sent}
pub use Rattle.fdc_phases.specs.Phases.{is_listening, is_over, is_overrun, is_reading}
pub use Rattle.fdc_phases.specs.Rates.{rate_chosen, rate_fits}
pub use Rattle.fdc_phases.specs.Waiting.{phase_counted}
pub use Rattle.fdc_phases.specs.declared.answers.Answer.{Answer}
pub use Rattle.fdc_phases.specs.declared.answers.Answer.TheVariants.{Long}
pub use Rattle.fdc_phases.specs.declared.phases.Phase.{Phase}
pub use Rattle.fdc_phases.specs.declared.phases.Phase.TheVariants.{Command, Execute, Result}
pub use Rattle.fdc_phases.specs.declared.phases.Task.{Task}
pub use Rattle.fdc_phases.specs.declared.phases.Task.TheVariants.{Format, Read, Write}
pub use Rattle.fdc_phases.specs.declared.rates.DataRate.{DataRate}
pub use Rattle.fdc_registers.specs.Fifo.{Fifo, room_of}
pub use Rattle.fdc_stages.specs.Formats.{Numbers}
pub use Rattle.fdc_stages.specs.History.{Past, turns_after}
pub use Rattle.fdc_stages.specs.Searches.{HasNoClear}
pub use Rattle.fdc_stages.specs.declared.ending.Ending.{Ending}
pub use Rattle.fdc_stages.specs.declared.ending.Ending.TheVariants.{BadCheck, Done, Late, NoCount, NoField, NoMark, NoSector, Overrun, Protected}
pub use Rattle.flop_base.specs.Counts.{Rose, RoseBy, Spends, last_count}
pub use Rattle.flop_base.specs.declared.answers.Rate.{Rate}
pub use Rattle.flop_base.specs.declared.key.Chrn.{Chrn}
pub use Rattle.irq_events.specs.Holds.{AreShort, Holds, IsReady, IsShort, counted}
pub use Rattle.irq_events.specs.declared.holding.DmaRequest.TheVariants.{High, Low}
pub use Rattle.pc_bus.specs.Boards.{AreSetIfEmpty, Board, IsEmpty, IsInRange, IsNew, channel_of, controller_of, drive_in, holds_of, latch_of, memory_of, selected_of}
pub use Rattle.pc_bus.specs.Counts.{CountsGoOn, long_holds}
pub use Rattle.pc_bus.specs.Handling.{Touches, byte_set, irq_taken}
pub use Rattle.pc_bus.specs.Ports.{Inputs, Outputs, WritesPort, is_controllers, port_read}
pub use Rattle.pc_bus.specs.Steps.{Runs, RunsToIrq, Step, Waits, stirred}
pub use Rattle.pc_bus.specs.Transfers.{can_move, moved, moved_up_to}
pub use Rattle.pc_bus.specs.declared.chips.Chips.{Chips}
pub use Rattle.raw_image.specs.Disk.{Disk, HasTrack, IsDisk, IsWithTrack, track_of, with_word}
pub use Rattle.sector_map.specs.Changes.{Change, IsChange, Written}
pub use Rattle.sector_map.specs.Layings.{Laying}
pub use Rattle.sector_map.specs.Met.{HasLook, met_in}
pub use Rattle.track_model.specs.Fields.{IsAddressAt, IsDataMark, IsSizeCode, IsWhole, content_size}
pub use Rattle.track_model.specs.Looks.{HasAddressMark, LookAt}
