-- What the lemmas of this crate cite of others, and of its own words.
pub use Rattle.std.proofs.Math.Nat.{mul-le-mul_right}
pub use Rattle.std.proofs.Math.Seq.{get_or-append_seam}
pub use Rattle.std.proofs.lemmas.Bool.{cases_lt, eqb-true, le-leb, le-ltb, lt-ltb}
pub use Rattle.std.proofs.lemmas.List.{append-nil, drop-replicate, drop_all, drop_at, drop_more, get_or-map, get_or-replicate, get_or_append_left, get_or_default, get_or_past, length-replicate, length-take, take-replicate, take_all, take_at}
pub use Rattle.std.proofs.lemmas.List.Concat.{flat_map-cons}
pub use Rattle.std.proofs.lemmas.List.Elements.{All-push}
pub use Rattle.std.proofs.lemmas.List.Folds.{list_any_at, list_any_none}
pub use Rattle.std.proofs.lemmas.List.Quantifiers.{all_pairs_push}
pub use Rattle.std.proofs.lemmas.Result.{err_from_is_err_and}
pub use Rattle.std.specs.List.{flat_map, list_any}
pub use Rattle.flop_base.specs.Standard.{standard_fill, words_at}
pub use Rattle.flop_base.specs.declared.answers.Rate.{Rate}
pub use Rattle.flop_base.specs.declared.answers.Rate.TheVariants.{R250, R500}
pub use Rattle.flop_base.specs.declared.key.Chrn.{Chrn}
pub use Rattle.imagedisk.specs.Found.{HasImage, HasSectors, IsFoundAs, SharesSectors}
pub use Rattle.imagedisk.specs.Headers.{cylinder_of, has_track, head_of, header_at, mode_byte, new_head_of, rate_of, size_code_of}
pub use Rattle.imagedisk.specs.Images.{AreApart, AreBytes, IsImdImage, IsImdSector, IsImdTrack, kept_size}
pub use Rattle.imagedisk.specs.Left.{Rest, part, rest_of}
pub use Rattle.imagedisk.specs.Made.{HasFirst, HasShape, IsCrowded, IsMadeTrack, IsMediumOf, IsRoomy, MakesTrack, PutsTrack, cylinder_count, empty_words, head_count, keys_of, laid_track, sector_window, window_of, with_sectors}
pub use Rattle.imagedisk.specs.Reading.{image_of, image_with, key_at, kind_of, map_at, sector_at, sectors_at, track_at, tracks_begin}
pub use Rattle.imagedisk.specs.Taken.{AreTakenBelow, AreUniform, HasNoAddress, HasTrackAt, Holds, IsBefore, IsFirstUnfit, IsFit, IsImageOf, IsSectorAt, IsTakenBelow, IsTrackOf, IsUnfit, TakesDisk, TakesPlace, TakesTrack, told_rate}
pub use Rattle.imagedisk.specs.Writing.{differs, file_of, head_byte, is_all, map_of, needed_map, part_of, sector_bytes, text, track_bytes}
pub use Rattle.imagedisk.specs.declared.error.ImdError.{ImdError}
pub use Rattle.imagedisk.specs.declared.error.ImdError.TheVariants.{NoMemory, Unfit}
pub use Rattle.imagedisk.specs.declared.image.ImdImage.{ImdImage}
pub use Rattle.imagedisk.specs.declared.sector.ImdKind.{ImdKind}
pub use Rattle.imagedisk.specs.declared.sector.ImdKind.TheVariants.{Absent, Bad, BadDeleted, Deleted, Good}
pub use Rattle.imagedisk.specs.declared.sector.ImdSector.{ImdSector}
pub use Rattle.imagedisk.specs.declared.track.ImdTrack.{ImdTrack}
pub use Rattle.imagedisk.specs.declared.writing.KeyPart.{KeyPart}
pub use Rattle.imagedisk.specs.declared.writing.KeyPart.TheVariants.{Cylinder, Head, Number}
pub use Rattle.raw_image.specs.Disk.{Disk, HasTrack, IsDisk, IsWithTrack, blank_disk, track_of, track_start}
pub use Rattle.raw_image.specs.declared.error.ImageError.{ImageError}
pub use Rattle.track_format.proofs.Read.{length-lay, read_fields, read_parted}
pub use Rattle.track_model.proofs.EmptyWindow.{empty_overlay, length-empty_window, own_none}
pub use Rattle.track_model.proofs.Kept.{KeepsFields, damaged_all, damaged_overlay, whole_bad, whole_content, whole_fields, whole_found, window_overlay}
pub use Rattle.track_model.proofs.Unique.{one_first, one_key, one_look_at}
pub use Rattle.track_model.proofs.Written.{length-window}
pub use Rattle.track_model.specs.Bytes.{byte_at, bytes_at, last_bit, legal}
pub use Rattle.track_model.specs.Fields.{AreAddresses, IsAddressAt, content_at, content_size}
pub use Rattle.track_model.specs.LaidFields.{IsKey, sector_place}
pub use Rattle.track_model.specs.Layouts.{Fits, laid_words, lay}
pub use Rattle.track_model.specs.Looks.{IsFirstDataMark, LookAt}
pub use Rattle.track_model.specs.Windows.{IsFieldFor, cut_of, damaged_window, empty_window, window_place, window_word, window_words}
pub use Rattle.track_model.specs.declared.Field.{Field}
pub use Rattle.track_model.specs.declared.Look.{Look}
pub use Rattle.track_model.specs.declared.Look.TheVariants.{BadCrc, Found, NoData}
