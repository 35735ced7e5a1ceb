-- What the lemmas of this crate cite of others, and of its own words.
pub use Rattle.std.proofs.Math.Nat.{mul-le-mul_right}
pub use Rattle.std.proofs.lemmas.Bool.{cases_eq, cases_lt, cases_order, cond-false, false≢true, ne_eqb}
pub use Rattle.std.proofs.lemmas.List.{append-nil, drop-drop, drop_all, drop_more, get_or-append_right, get_or-drop, get_or-map, get_or-replicate, get_or-take, get_or_append_left, get_or_default, get_or_past, length-append, length-map, length-replicate, length-take, take_all, take_more_set}
pub use Rattle.std.specs.List.{AllPairs, Contains, flat_map}
pub use Rattle.flop_base.specs.Standard.{gap_at, words_at}
pub use Rattle.flop_base.specs.declared.key.Chrn.{Chrn}
pub use Rattle.track_format.specs.Gaps.{Suits, narrow_gap}
pub use Rattle.track_format.specs.Keys.{asked_in, key_bytes}
pub use Rattle.track_format.specs.Streams.{AsksKey, Gives, GoesOn, HasSectors, IsInAddress, IsInData, IsInPart, KeyIs, filled, words_of_part}
pub use Rattle.track_model.proofs.CrcSteps.{crc-marks, crc_below, crc_from_none}
pub use Rattle.track_model.proofs.Parted.{IsParted}
pub use Rattle.track_model.proofs.Recorded.{AreMarks, AreWords, Nowhere, byte_at-recorded, byte_word_bit, get_or-recorded, length-recorded, mark_symbol, no_mark_in_bytes, recorded_words, run_at_word, symbol_behind, word_some}
pub use Rattle.track_model.proofs.Unique.{one_deleted, one_key}
pub use Rattle.track_model.specs.Bytes.{byte_at, last_bit}
pub use Rattle.track_model.specs.Crc.{crc, crc_from}
pub use Rattle.track_model.specs.Fields.{HasCheck, IsAddressAt, IsDataMark, IsSizeCode, address_bytes, after_marks, content_at, content_size, data_cells}
pub use Rattle.track_model.specs.LaidFields.{HasEndRoom, HasLaidFields, IsKey, content_place, sector_place}
pub use Rattle.track_model.specs.Layouts.{Fits, address_content, before_sectors, check_symbols, data_content, field_symbols, gap, laid_words, lay, marks, next_symbol, recorded, sector_symbols, symbol_bit, symbol_byte, sync, track_symbols, word_after}
pub use Rattle.track_model.specs.Looks.{LookAt}
pub use Rattle.track_model.specs.Marks.{IsAddressMark, IsRun, IsSound}
pub use Rattle.track_model.specs.Regular.{HasCleanEnds, HasCleanGaps, HasSizes, HasSpans, IsRegular, IsSpaced, span_cells}
pub use Rattle.track_model.specs.Sectors.{IsLone, IsPlain}
pub use Rattle.track_model.specs.declared.Look.TheVariants.{Found}
pub use Rattle.track_model.specs.declared.symbol.Symbol.{Symbol}
pub use Rattle.track_model.specs.declared.symbol.Symbol.TheVariants.{Byte, Key, Mark}
