-- What the words of this crate cite of others.
pub use Rattle.fdc_commands.specs.declared.results.Results.{Results}
pub use Rattle.fdc_registers.specs.Fifo.{Fifo, room_of, wants}
pub use Rattle.fdc_stages.specs.Formats.{HasFormatted, IsFormatting, IsResultKey, Numbers, format_next, is_due as is_format_due, is_open as is_format_open}
pub use Rattle.fdc_stages.specs.History.{Past, begun as new_past, words_heard, wrote}
pub use Rattle.fdc_stages.specs.Leads.{HasLead, LeadsOn}
pub use Rattle.fdc_stages.specs.Readings.{HasRead, IsReading, IsStart, mark_at}
pub use Rattle.fdc_stages.specs.Writings.{HasWritten, IsWriting, handed_with, heard_where, is_due, is_open, lead_of}
pub use Rattle.fdc_stages.specs.declared.ending.Ending.{Ending}
pub use Rattle.fdc_stages.specs.declared.ending.Ending.TheVariants.{BadCheck, Done, Late, NoCount, NoField, NoMark, NoSector, Overrun, Protected}
pub use Rattle.fdc_stages.specs.declared.writing.WriteStage.{WriteStage}
pub use Rattle.flop_base.specs.declared.key.Chrn.{Chrn}
pub use Rattle.track_model.specs.Fields.{IsSizeCode}
