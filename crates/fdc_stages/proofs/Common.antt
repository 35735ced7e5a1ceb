-- What the lemmas of this crate cite of others, and of its own words.
pub use Rattle.std.proofs.lemmas.Bool.{cases_lt, false≢true, true≢false}
pub use Rattle.std.proofs.lemmas.List.{append-nil, drop-append-le, drop-drop, drop_all, length-append, length-drop, length-replicate, nil_from_length, take_all, take_at}
pub use Rattle.std.specs.List.{flat_map}
pub use Rattle.fdc_stages.specs.Formats.{AreKeys, HasFormatted, HasLaid, HasNext, HasWholeTurn, IsAtPart, IsBehindFirst, IsBehindIndex, IsFirstOfLayout, IsFormatting, IsLaid, IsLaidTo, IsLastKey, IsNextLaid, IsResultKey, IsUnopened, LaysWhole, Numbers, StreamTakes, TakesAt, format_next, is_due, is_first, is_next, keys_from, last_from, last_key, no_key, symbols_of}
pub use Rattle.fdc_stages.specs.History.{HasFewTurns, IsAmong, IsJustOver, IsTurn, IsTurnIn, Past, heard, kept_out, words_heard, words_in, wrote}
pub use Rattle.fdc_stages.specs.Leads.{StreamLeads}
pub use Rattle.fdc_stages.specs.Readings.{HasNoField, HasRead, HearsByte, IsContent, IsContentAt, IsFieldOver, IsOver, IsReading, IsStart, IsToldFrom, IsToldOf, IsWaitingAt, PassesBy}
pub use Rattle.fdc_stages.specs.Searches.{HasMarkIn, HasMissed, HasNoClear, HasNoneIn, HasTurned, IsBetween, IsMet, IsMetAt, IsMissed, IsPassed, IsSearching, IsSearchingIn, Wants}
pub use Rattle.fdc_stages.specs.Windows.{Gives, bytes_behind, bytes_left, count_from, is_content, is_low, lead_behind, needs_byte, window_behind, with_byte, words_behind, words_of_field}
pub use Rattle.fdc_stages.specs.Writings.{HasBegun, HasWhole, HasWritten, IsBegun, IsFirstOf, IsInWindow, IsNextWord, IsStopped, IsWhole, IsWriting, WritesCut, WritesFirst, WritesWhole, handed_with, heard_where, is_last, is_open, opens, rest_behind, write_heard}
pub use Rattle.fdc_stages.specs.declared.ending.Ending.{Ending}
pub use Rattle.fdc_stages.specs.declared.ending.Ending.TheVariants.{BadCheck, Done, Late, NoField, NoMark, NoSector, Overrun, Protected}
pub use Rattle.fdc_stages.specs.declared.formatting.FormatPart.{FormatPart}
pub use Rattle.fdc_stages.specs.declared.formatting.FormatPart.TheVariants.{Await, Barred, Due, Lay}
pub use Rattle.fdc_stages.specs.declared.formatting.FormatStage.{FormatStage}
pub use Rattle.fdc_stages.specs.declared.reading.ReadStage.{ReadStage}
pub use Rattle.fdc_stages.specs.declared.reading.ReadStage.TheVariants.{Content, Over, Search, Wait}
pub use Rattle.fdc_stages.specs.declared.writing.WriteStage.{WriteStage}
pub use Rattle.fdc_stages.specs.declared.writing.WriteStage.TheVariants.{Window}
pub use Rattle.flop_base.specs.declared.key.Chrn.{Chrn}
pub use Rattle.track_format.proofs.Asked.{asked-track, asked_first, asked_same, length-key_bytes, recorded_more, recorded_none}
pub use Rattle.track_format.specs.Keys.{key_bytes}
pub use Rattle.track_format.specs.Streams.{AsksKey, KeyIs, filled}
pub use Rattle.track_format.specs.declared.stream.FormatStream.{FormatStream}
pub use Rattle.track_model.specs.Bytes.{byte_at, bytes_at, last_bit, legal}
pub use Rattle.track_model.specs.Fields.{IsSizeCode, after_marks, content_size}
pub use Rattle.track_model.specs.Layouts.{Fits, address_content, check_symbols, data_content, gap, laid_words, lay, marks, next_symbol, recorded, sector_symbols, symbol_bit, sync, track_symbols, word_after}
pub use Rattle.track_model.specs.Marks.{IsAddressMark, data_byte}
pub use Rattle.track_model.specs.Windows.{window_word}
pub use Rattle.track_model.specs.Writing.{check_bytes, window}
pub use Rattle.track_model.specs.declared.symbol.Symbol.{Symbol}
pub use Rattle.track_model.specs.declared.symbol.Symbol.TheVariants.{Byte, Key}
pub use Rattle.track_separator.proofs.Lawful.{address_old_or_new, address_stays, bytes_stay, field_stays, first_stays, follows_hunts, intact_stays, intact_stood, late_is_no_data, length-with_word, mark_old_or_new, mark_stays, no_data_stays, no_run_stood, part_with_word, reads_mark, reads_within, unfinished_is_no_data, whole_part}
pub use Rattle.track_separator.specs.Parts.{EndsInLast, IsPart, turn_after, with_word}
pub use Rattle.track_separator.specs.Turns.{IsHunted, SBegins, SReadFed, SWaitFed}
pub use Rattle.track_separator.specs.Waits.{SReadSeen, SReads, SWaits}
pub use Rattle.track_separator.specs.declared.state.Seen.{Seen}
pub use Rattle.track_separator.specs.declared.state.Seen.TheVariants.{Address, End, Mark, Mode, NoData, Nothing}
pub use Rattle.track_separator.specs.declared.state.Separator.{Separator}
