-- What the lemmas of this crate cite of others, and of its own words.
pub use Rattle.std.proofs.lemmas.Bool.{eqb-false, eqb-true}
pub use Rattle.std.proofs.lemmas.Bool.Decides.{nat_tests}
pub use Rattle.std.proofs.lemmas.Fmt.{decimal-digits_value, decimal_digit, decimal_is_IsNumeral, first_decimal, hex_one_digit, length-decimal-le}
pub use Rattle.std.proofs.lemmas.List.{append-nil, append_cancel_left, drop-drop, flat_map_more, get_or-map, get_or_append_left, length-map, take_more}
pub use Rattle.std.proofs.lemmas.List.Elements.{All-append, All-from_recursion, recursion_from_All}
pub use Rattle.std.proofs.lemmas.List.FromFn.{map-range_with_len_more}
pub use Rattle.std.proofs.lemmas.Str.Parse.{digit_from_value, numerals_by_value, tells_digits}
pub use Rattle.std.specs.Fmt.{decimal, digit_glyph}
pub use Rattle.std.specs.List.{AllByRecursion, AllPairs, flat_map, join_with_byte, position, position_or_len, range_with_len, slice_get}
pub use Rattle.std.specs.Str.Parse.{AllDigits, IsNumeral, digits_value}
pub use Rattle.flop_base.specs.Standard.{sectors_at}
pub use Rattle.flop_base.specs.declared.answers.Code.{Code}
pub use Rattle.flop_base.specs.declared.answers.Code.TheVariants.{BadCrc, BadRequest, Changed, NoMark, NotFound, NotReady, Overrun, Page, Protected, Seek}
pub use Rattle.flop_base.specs.declared.answers.Rate.{Rate}
pub use Rattle.flop_base.specs.declared.key.Chrn.{Chrn}
pub use Rattle.rescue.specs.Course.{logged_keys, standard_keys}
pub use Rattle.rescue.specs.Fields.{BeginsWith, BeginsWithNone, line_of, pieces_of, words_of}
pub use Rattle.rescue.specs.Log.{IsAfterLast, IsBefore, IsFirstBadLine, IsLog, IsLogLine, code_text, line_text, line_words, log_text}
pub use Rattle.rescue.specs.declared.line.LogLine.{LogLine}
pub use Rattle.sector_map.specs.Standard.{cylinder_keys, key_of, track_keys}
