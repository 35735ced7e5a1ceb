-- What the words of this crate cite of others.
pub use Rattle.flop_base.specs.Lists.{with_items}
pub use Rattle.flop_base.specs.declared.key.Chrn.{Chrn}
pub use Rattle.saved_state.specs.Saved.{spelled_byte, spelled_flag, spelled_key, spelled_word}
pub use Rattle.track_format.specs.declared.stream.FormatStream.{FormatStream}
pub use Rattle.track_model.specs.Bytes.{bytes_at, legal}
pub use Rattle.track_model.specs.Fields.{IsAddressAt, IsSizeCode, after_marks, content_at, content_size}
pub use Rattle.track_model.specs.Looks.{HasAddressMark, IsFirstDataMark, LookAt}
pub use Rattle.track_model.specs.Marks.{data_byte}
pub use Rattle.track_model.specs.Writing.{check_bytes, window}
pub use Rattle.track_separator.specs.Parts.{EndsInLast, IsPart, turn_after, with_word}
pub use Rattle.track_separator.specs.declared.state.Separator.{Separator}
