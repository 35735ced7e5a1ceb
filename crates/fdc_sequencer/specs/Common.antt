-- What the words of this crate cite of others.
pub use Rattle.std.specs.Int.RustNames.{bit_or}
pub use Rattle.drive_model.specs.Drive.{DriveState, exchanged, forgotten, loaded, place_under, same_length, unloaded, with_motor, with_protection}
pub use Rattle.fdc_commands.specs.Seeking.{after_sense, has_ended_seek, pulses_ahead, sensed}
pub use Rattle.fdc_commands.specs.declared.command.Command.{Command}
pub use Rattle.fdc_commands.specs.declared.command.Command.TheVariants.{ReadData, Seek, WriteData, WriteDeleted}
pub use Rattle.fdc_commands.specs.declared.results.Results.{Results}
pub use Rattle.fdc_core.specs.Commands.{status_of_lines}
pub use Rattle.fdc_core.specs.Courses.{HoldsLines, awaits_nothing, is_at_rest}
pub use Rattle.fdc_core.specs.Dma.{byte_out, taken_in, taken_out, to_memory_of, told_count}
pub use Rattle.fdc_core.specs.Drives.WordTimes.{PassesWordTime, WordTimes}
pub use Rattle.fdc_core.specs.Fields.{ReadsField}
pub use Rattle.fdc_core.specs.Listening.{is_executing}
pub use Rattle.fdc_core.specs.Ports.{Writes, after_read, main_status, resets, value_read}
pub use Rattle.fdc_core.specs.Quiet.{Foresees, IsLongest, IsQuietBy}
pub use Rattle.fdc_core.specs.Ranges.{IsInRange}
pub use Rattle.fdc_core.specs.State.{asks, at_power_up, data_rate, dor_of, interrupts, is_gated}
pub use Rattle.fdc_core.specs.Whole.{TakesWhole, ending_told, given_up, is_idle, mark_of, recalibrated_within, results_waiting, without_seek}
pub use Rattle.fdc_core.specs.declared.controller.Fdc.{Fdc}
pub use Rattle.fdc_core.specs.declared.controller.Lines.{Lines, Lines as LinesValue}
pub use Rattle.fdc_phases.specs.Heard.{Sent, gave, told_in}
pub use Rattle.fdc_stages.specs.History.{Past}
pub use Rattle.fdc_stages.specs.declared.ending.Ending.{Ending}
pub use Rattle.flop_base.specs.declared.key.Chrn.{Chrn}
