-- What the words of this crate cite of others.
pub use Rattle.std.specs.Int.RustNames.{bit_or}
pub use Rattle.drive_model.specs.Ahead.{AreAhead, LetsPass, words_left}
pub use Rattle.drive_model.specs.Drive.{Becomes, DriveState, InRange, Pulses, Reads, Writes, at_index, is_protected, passed, rate_of, with_gate, with_motor}
pub use Rattle.fdc_commands.specs.Seeking.{after_sense, at_rest, first_pending, has_ended_seek, is_seeking, pulse_due, pulses_ahead, pulses_within, seek_bits, sensed, with_motion, without_ended}
pub use Rattle.fdc_commands.specs.Table.{SizeInRange, answer, is_begun, kept, whole}
pub use Rattle.fdc_commands.specs.declared.bytes.Accepted.{Accepted}
pub use Rattle.fdc_commands.specs.declared.bytes.Accepted.TheVariants.{Invalid, More, Ready}
pub use Rattle.fdc_commands.specs.declared.motion.Motion.TheVariants.{Outward, Toward}
pub use Rattle.fdc_commands.specs.declared.results.Results.{Results}
pub use Rattle.fdc_phases.specs.Answers.{after_byte, is_fresh, key_after, next_byte, no_key, results_of}
pub use Rattle.fdc_phases.specs.Commands.{IsFormattingTrack, IsReadingData, IsReadingId, IsWritingData, WaitsAtFirst}
pub use Rattle.fdc_phases.specs.Dma.{phase_asks, phase_told, task_asks}
pub use Rattle.fdc_phases.specs.Formatting.{IsFormattingAt, StageHearsIndex, StageLaysWord, is_ended}
pub use Rattle.fdc_phases.specs.Heard.{MayReadIdIn, MayReadIn, MayReadTask, Sent, gave, key_met, results_sent, stepped, told_in}
pub use Rattle.fdc_phases.specs.Phases.{ending_of, ending_of_phase, format_at, head_of, is_listening, is_moving, is_over, is_overrun, is_reading, key_as_sent, mark_of_phase, over_of, write_at}
pub use Rattle.fdc_phases.specs.Rates.{rate_chosen, rate_fits, seen_of}
pub use Rattle.fdc_phases.specs.Writing.{IsWritingAt, StageHearsWord}
pub use Rattle.fdc_phases.specs.Written.{MayFormatIn, MayFormatTask, MayWriteIn, MayWriteTask, took}
pub use Rattle.fdc_phases.specs.declared.answers.Answer.TheVariants.{Long, Short}
pub use Rattle.fdc_phases.specs.declared.phases.End.{End}
pub use Rattle.fdc_phases.specs.declared.phases.Phase.{Phase}
pub use Rattle.fdc_phases.specs.declared.phases.Phase.TheVariants.{Command, Command as Taking, Execute, Result, Result as Waiting}
pub use Rattle.fdc_phases.specs.declared.phases.Task.{Task}
pub use Rattle.fdc_phases.specs.declared.phases.Task.TheVariants.{Format, Read, ReadId, Write}
pub use Rattle.fdc_phases.specs.declared.rates.DataRate.{DataRate}
pub use Rattle.fdc_phases.specs.declared.transfers.Formatting.{Formatting}
pub use Rattle.fdc_phases.specs.declared.transfers.Reading.{Reading}
pub use Rattle.fdc_phases.specs.declared.transfers.Writing.{Writing}
pub use Rattle.fdc_registers.specs.Dor.{gate, not_reset}
pub use Rattle.fdc_registers.specs.Fifo.{Fifo, emptied, room_of, wants}
pub use Rattle.fdc_stages.specs.Formats.{IsResultKey, LaysFirst, LaysWhole, Numbers, Takes, is_due, opens}
pub use Rattle.fdc_stages.specs.History.{HasFewTurns, Past, begun as new_past, heard, kept_out, words_heard, wrote}
pub use Rattle.fdc_stages.specs.Readings.{FailsWell, HasHeard, HearsByte, HearsBytes, IsContent, IsReading, IsToldOf, KeepsMark, PassesBy, ReadOutcome, mark_at}
pub use Rattle.fdc_stages.specs.Searches.{HasNoClear, HasSearched, HearsNothingIn, IsSearching, MissesWell, SearchOutcome, Wants}
pub use Rattle.fdc_stages.specs.Writings.{HasCause, WritesFirst, WritesWhole}
pub use Rattle.fdc_stages.specs.declared.ending.Ending.{Ending}
pub use Rattle.fdc_stages.specs.declared.ending.Ending.TheVariants.{BadCheck, Done, Late, NoCount, NoField, NoMark, NoSector, Overrun, Protected}
pub use Rattle.fdc_stages.specs.declared.formatting.FormatNext.{FormatNext}
pub use Rattle.fdc_stages.specs.declared.reading.ReadStage.{ReadStage}
pub use Rattle.fdc_stages.specs.declared.searching.Search.{Search}
pub use Rattle.fdc_stages.specs.declared.writing.WriteNext.{WriteNext}
pub use Rattle.flop_base.specs.Counts.{last_count}
pub use Rattle.flop_base.specs.declared.key.Chrn.{Chrn}
pub use Rattle.raw_image.specs.Disk.{Disk, HasTrack, IsDisk, IsWithTrack, track_of}
pub use Rattle.track_model.specs.Fields.{IsAddressAt, IsDataMark, IsSizeCode, address_bytes, content_size}
pub use Rattle.track_model.specs.Sectors.{IsPlain}
