-- What the lemmas of this crate cite of others, and of its own words.
pub use Rattle.std.proofs.lemmas.Bool.{and_from, and_parts, cases_eq, cases_lt, cases_order, cond-true, cond_both, eq-eqb, eqb-true, false≢true, lt-ltb, ltb-true, ne_eqb}
pub use Rattle.std.proofs.lemmas.List.{append-nil, at_drop_all, drop_all, drop_more, ext_get_or, flat_map_more, get_or-append-add, get_or-drop, get_or-replicate, get_or-take, get_or_append_left, get_or_past, length-append, length-drop, length-replicate, length-set, length-take, length-take-le, take-append-drop, take_all, take_more, take_more_set}
pub use Rattle.std.proofs.lemmas.List.FromFn.{fill_by_all, get_or-map-range_with_len, length-map-range_with_len, map-range_with_len_more, take-map-range_with_len}
pub use Rattle.std.proofs.lemmas.Nat.{div-add-mod', div_below, mod_below, mul-add-lt}
pub use Rattle.std.proofs.lemmas.Slice.{put_mid-paste, take-put_mid}
pub use Rattle.std.specs.Int.{bit_at, to_be_bytes, w16}
pub use Rattle.std.specs.List.{AllPairs, flat_map, range_with_len}
pub use Rattle.flop_base.specs.Standard.{sectors_at, standard_code}
pub use Rattle.flop_base.specs.declared.answers.Rate.{Rate}
pub use Rattle.flop_base.specs.declared.key.Chrn.{Chrn}
pub use Rattle.raw_image.specs.Disk.{Disk, HasTrack, IsDisk, IsWithTrack, track_of, track_start}
pub use Rattle.sector_map.specs.ChangedDisks.{HasWritten, IsSafeChange, IsWholeChange, change_at, entry_of, joined, written_under}
pub use Rattle.sector_map.specs.Changes.{Change, IsChange, Written, window_of}
pub use Rattle.sector_map.specs.Disks.{Entry, IsOnMap, IsRegularDisk, LookOn}
pub use Rattle.sector_map.specs.Failing.{AreFailing, unless_found}
pub use Rattle.sector_map.specs.KeptDisks.{AreAlike, KeepsOtherKeys, KeepsSectors, KeepsTracks}
pub use Rattle.sector_map.specs.LaidDisks.{format_at, joined_laying, laying_at}
pub use Rattle.sector_map.specs.Met.{AllFound, HasClearAddress, HasLook, HasNoClearMark, IsClearAddress, met_in, met_on, same_rate}
pub use Rattle.sector_map.specs.MetTracks.{HasNothing, MeetsTrack}
pub use Rattle.sector_map.specs.Places.{HasNoMark, HasNoRun, IsApart, IsFieldRegular, IsPlaceRegular}
pub use Rattle.sector_map.specs.Standard.{cylinder_keys, key_of, standard_keys, track_keys}
pub use Rattle.sector_map.specs.Turned.{IsPassed, IsReadOver, IsTurnRead}
pub use Rattle.track_model.proofs.CrcSteps.{crc_from_none, marks_crc}
pub use Rattle.track_model.proofs.Places.{bit_at-cells_at, byte_at-cells_at, bytes_at-cons, bytes_at-more, zero_word_touched}
pub use Rattle.track_model.proofs.Splices.{length-with_items, longer_cut, same_before}
pub use Rattle.track_model.proofs.Unique.{one_first, one_key, one_look_at}
pub use Rattle.track_model.proofs.Written.{length-sync_and_marks, length-window}
pub use Rattle.track_model.specs.Bytes.{byte_at, bytes_at, last_bit, legal}
pub use Rattle.track_model.specs.Cells.{IsInside, cell, cells_at}
pub use Rattle.track_model.specs.Crc.{crc, crc_from}
pub use Rattle.track_model.specs.Fields.{HasCheck, IsAddress, IsAddressAt, IsDataMark, IsSizeCode, after_marks, content_at, content_size, data_cells}
pub use Rattle.track_model.specs.Kept.{KeepsOthers}
pub use Rattle.track_model.specs.Looks.{HasAddressMark, HasDataField, IsFirstAddress, IsFirstDataMark, IsIntact, LookAt, LookFirst, LookFor}
pub use Rattle.track_model.specs.Marks.{IsAddressMark, IsRun, TouchesNoZero, data_byte}
pub use Rattle.track_model.specs.Regular.{IsRegular, IsSpaced}
pub use Rattle.track_model.specs.Sectors.{HasNoRunWithin, IsPlain, IsSector}
pub use Rattle.track_model.specs.Windows.{HasFieldFor, IsCuttable, IsFieldFor, IsTidy, cut_of, damaged_window, window_place, window_word, window_words}
pub use Rattle.track_model.specs.Writing.{address_field, check_bytes, sync_and_marks, window, written_field}
pub use Rattle.track_model.specs.declared.Field.{Field}
pub use Rattle.track_model.specs.declared.Look.{Look}
pub use Rattle.track_model.specs.declared.Look.TheVariants.{BadCrc, Found, NoData, NoMark, NoSector}
pub use Rattle.track_separator.proofs.Lawful.{address_stays, address_stood, byte_stays, field_stays, first_words, mark_stays, mark_stood, no_data_stays, no_run_stood, reads_within, runs_apart, unfinished_is_no_data}
pub use Rattle.track_separator.specs.Hunts.{GivesAll, SAddressed, SFollows, SHuntSeen, SHunts, Stands}
pub use Rattle.track_separator.specs.Parts.{EndsInLast, IsPart, turn_after, with_word}
pub use Rattle.track_separator.specs.Turns.{SBegins, SReadFed, SWaitFed}
pub use Rattle.track_separator.specs.Waits.{HasEnded, IsUnfinished, SReads, SWaits, TellsWhole}
pub use Rattle.track_separator.specs.declared.state.Seen.{Seen}
pub use Rattle.track_separator.specs.declared.state.Seen.TheVariants.{Address, Byte, End, Mark, Mode, Nothing}
pub use Rattle.track_separator.specs.declared.state.Separator.{Separator}
