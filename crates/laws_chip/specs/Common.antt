-- What the words of this crate cite of others.
pub use Rattle.std.specs.Int.RustNames.{bit_or}
pub use Rattle.drive_model.specs.Drive.{DriveState}
pub use Rattle.fdc_chip.specs.Chips.{ChipState, IsNewChip, KeepsChip, KeepsRest, asks_chip, interrupts_chip, passes_by_channel, passes_by_port, with_front}
pub use Rattle.fdc_chip.specs.Codes.{code_of, has_bit, has_multitrack, parameters}
pub use Rattle.fdc_chip.specs.Doing.{Begins, Obeys, Opens, drained, identifying, implies, is_moving, is_size, is_told, moves_heads, needs_heads, pace_begun, relative_target, sectors_of_track, sectors_to, sensing, transfer_sent, verifying}
pub use Rattle.fdc_chip.specs.Ending.{looks_for_cylinder, unit_of}
pub use Rattle.fdc_chip.specs.Interrupts.{Interrupting, at_rest, cylinder_of, sensed, with_result}
pub use Rattle.fdc_chip.specs.Paces.{Paces, is_over, stepped}
pub use Rattle.fdc_chip.specs.Ports.{GivesChip, ReadsChip, TakesChip, WritesChip, byte_told, is_whole, told_chip, value_behind, with_next}
pub use Rattle.fdc_chip.specs.Settings.{is_by_port, step_words}
pub use Rattle.fdc_chip.specs.Steps.{RunsChip, StepsChip}
pub use Rattle.fdc_chip.specs.declared.code.ChipOpcode.{ChipOpcode}
pub use Rattle.fdc_chip.specs.declared.code.ChipOpcode.TheVariants.{FormatTrack, ReadId, ReadTrack, Recalibrate, RelativeSeek, Seek, Transfer as TransferCode, Verify as VerifyCode}
pub use Rattle.fdc_chip.specs.declared.order.Order.{Order}
pub use Rattle.fdc_chip.specs.declared.pace.PacedSeek.{PacedSeek}
pub use Rattle.fdc_chip.specs.declared.stage.ChipStage.{ChipStage}
pub use Rattle.fdc_chip.specs.declared.stage.ChipStage.TheVariants.{Busy, Held, Ready}
pub use Rattle.fdc_chip.specs.declared.stage.ChipTask.{ChipTask}
pub use Rattle.fdc_chip.specs.declared.stage.ChipTask.TheVariants.{Sent, Sought}
pub use Rattle.fdc_commands.specs.Seeking.{has_ended_seek, is_seeking, recalibrated, seek_bits, sought}
pub use Rattle.fdc_commands.specs.declared.command.Command.{Command}
pub use Rattle.fdc_commands.specs.declared.motion.Seek.{Seek as DriveSeek}
pub use Rattle.fdc_commands.specs.declared.results.Results.{Results}
pub use Rattle.fdc_core.specs.Drives.Hearing.{Outset}
pub use Rattle.fdc_core.specs.Ports.{resets}
pub use Rattle.fdc_core.specs.Ranges.{IsInRange}
pub use Rattle.fdc_core.specs.State.{is_gated, is_held}
pub use Rattle.fdc_core.specs.Tellings.{FormatTells, LaysTrack, WriteMeans, WritesWindow}
pub use Rattle.fdc_core.specs.Times.{IsTime, KeptOut, Saw, Stopped, WordTime, Wrote, after_time}
pub use Rattle.fdc_core.specs.declared.controller.Fdc.{Fdc}
pub use Rattle.fdc_phases.specs.Phases.{head_of}
pub use Rattle.fdc_phases.specs.Rates.{rate_fits}
pub use Rattle.fdc_phases.specs.Written.{IsContent, took}
pub use Rattle.fdc_phases.specs.declared.phases.Phase.TheVariants.{Command as Taking, Execute, Result}
pub use Rattle.fdc_sequencer.specs.Adapters.{AdapterState, drive_at, lines_at, selected_at}
pub use Rattle.fdc_sequencer.specs.Fronts.{Front, GivesCommand, GivesFront, GivesTransfer, KeepsFront, TakesFront, WritesFront, asks_outside, interrupts_outside, is_ready, results_outside, results_taken, seeking_bit, told_front, value_outside}
pub use Rattle.fdc_sequencer.specs.Moves.{RunsFront, StepsFront, goes_on, is_bad_other, is_unwanted, judged_if, results_behind, results_failed}
pub use Rattle.fdc_sequencer.specs.Transfers.{is_last, is_other, is_second_head, is_skipping, next_of, results_told}
pub use Rattle.fdc_sequencer.specs.declared.opcode.Operation.{Operation}
pub use Rattle.fdc_sequencer.specs.declared.opcode.Operation.TheVariants.{Read, Write}
pub use Rattle.fdc_sequencer.specs.declared.stage.FrontStage.{FrontStage}
pub use Rattle.fdc_sequencer.specs.declared.stage.FrontStage.TheVariants.{Moving, Seeking, Telling, Through}
pub use Rattle.fdc_sequencer.specs.declared.transfer.Transfer.{Transfer}
pub use Rattle.fdc_stages.specs.Findings.{FindsBadCheck, FindsNoField, FindsNoMark, FindsNoSector, FindsSector}
pub use Rattle.fdc_stages.specs.Formats.{Numbers}
pub use Rattle.fdc_stages.specs.History.{IsTurn, Past, begun as new_past}
pub use Rattle.fdc_stages.specs.Writings.{WritesWhole}
pub use Rattle.fdc_stages.specs.declared.ending.Ending.{Ending}
pub use Rattle.fdc_stages.specs.declared.ending.Ending.TheVariants.{BadCheck, Done, NoCount}
pub use Rattle.flop_base.specs.declared.key.Chrn.{Chrn}
pub use Rattle.raw_image.specs.Disk.{Disk, HasTrack, IsDisk, IsWithTrack, track_of}
pub use Rattle.track_model.specs.Fields.{IsAddressAt, IsDataMark, IsSizeCode, IsWhole, content_at, content_size}
pub use Rattle.track_model.specs.Looks.{HasAddressMark, HasDataField, IsIntact, LookAt}
pub use Rattle.track_model.specs.declared.Look.TheVariants.{BadCrc, Found, NoData}
