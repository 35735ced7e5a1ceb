-- What the lemmas of this crate cite of others, and of its own words.
pub use Rattle.std.proofs.Math.Nat.{mod-eq_of_lt, pow-le-pow_right, pow-suc}
pub use Rattle.std.proofs.lemmas.Bool.{agree_below_at, cases_eq, cases_lt, cases_order, cond-false, cond-true, eq-eqb, eqb-true, false≢true, ne_eqb}
pub use Rattle.std.proofs.lemmas.List.{append-nil, at_drop_all, ext_get_or, get_or-append-add, get_or-append_right, get_or-drop, get_or-replicate, get_or-take, get_or_append_left, get_or_past, length-append, length-drop, length-replicate, length-take, take-append-drop}
pub use Rattle.std.proofs.lemmas.List.FromFn.{fill_by_all, get_or-map-range_with_len, length-map-range_with_len, map-range_with_len_more}
pub use Rattle.std.proofs.lemmas.Nat.{and_mask, mod-pow-add, or_shifted, pow-add, shr-shr, xor_comm, xor_lt, xor_of_16, xor_of_8}
pub use Rattle.std.proofs.lemmas.Nat.Bits.{bit_at-lt, bit_at-suc, bit_at-zero, bit_at_cat_high, bit_at_cat_low, bit_at_lowest, bit_at_xor, same_from_bits_below}
pub use Rattle.std.specs.Int.{bit_at}
pub use Rattle.std.specs.Int.Bits.{bit_and, bit_or, bit_xor}
pub use Rattle.flop_base.specs.declared.key.Chrn.{Chrn}
pub use Rattle.track_model.specs.Bytes.{bit_before, bit_of, byte_at, bytes_at, clock_between, last_bit, legal, legal_cell}
pub use Rattle.track_model.specs.Cells.{IsInside, cell, cells_at, number}
pub use Rattle.track_model.specs.Crc.{crc, crc_from, polynomial}
pub use Rattle.track_model.specs.Fields.{HasCheck, IsAddressAt, IsDataMark, IsSizeCode, IsWhole, after_marks, content_at, content_size, data_cells}
pub use Rattle.track_model.specs.Kept.{KeepsOthers}
pub use Rattle.track_model.specs.Laid.{ComesBy, FieldWrite, IsLaid, IsRegularLay, with_window}
pub use Rattle.track_model.specs.Looks.{HasDataField, IsFirstAddress, IsFirstDataMark, IsIntact, LookAt, LookFirst, LookFor}
pub use Rattle.track_model.specs.Marks.{IsAddressMark, IsDataRun, IsRun, IsSound, TouchesNoZero, data_byte}
pub use Rattle.track_model.specs.Regular.{HasCleanEnds, HasCleanGaps, HasSizes, HasSpans, IsRegular, IsSpaced, span_cells}
pub use Rattle.track_model.specs.Sectors.{IsClear, IsLone, IsPlain, IsSector, IsUnder}
pub use Rattle.track_model.specs.Windows.{HasFieldFor, IsFieldFor, IsTidy, cut_of, damaged_window, empty_window, window_end, window_place, window_word, window_words}
pub use Rattle.track_model.specs.Writing.{address_field, check_bytes, sync_and_marks, window, written_field}
pub use Rattle.track_model.specs.declared.Look.{Look}
pub use Rattle.track_model.specs.declared.Look.TheVariants.{BadCrc, Found, NoData, NoMark, NoSector}
