-- What the lemmas of this crate cite of others, and of its own words.
pub use Rattle.std.proofs.Math.ListN.{drop_of_length-le, set}
pub use Rattle.std.proofs.lemmas.Bool.{and_parts, cases_lt, eqb-true, le-leb, le-ltb, leb-true, lt-ltb, ltb-false}
pub use Rattle.std.proofs.lemmas.List.{append-nil, drop-append-le, drop-drop, drop-set-add, drop-set-lt, drop_at, ext_get_or, get_or-append-add, get_or-drop, get_or-take, get_or_append_left, get_or_past, length-append, length-drop, length-take, length-take-le, take-append-drop, take-append-le, take-set-le, take_all, take_at, with_items_is}
pub use Rattle.std.proofs.lemmas.Result.{err_from_is_err_and}
pub use Rattle.std.specs.Int.{from_be_bytes, to_be_bytes, w16}
pub use Rattle.std.specs.List.{flat_map, starts_with}
pub use Rattle.raw_image.specs.Disk.{Disk, HasTrack, IsDisk, IsWithTrack, track_of, track_start, with_word}
pub use Rattle.raw_image.specs.Header.{Header, field, header_of, magic, protection_of, rate_of, version_of, within, word_count}
pub use Rattle.raw_image.specs.Image.{OrNoMemory, Reads, Spells, body_of, disk_of, flag, header_bytes, image_of, rate_byte, spelling, whole_length}
pub use Rattle.raw_image.specs.Progress.{Begun, Failed, FeedsAll, Going, IsFed, IsWrong, Progress}
pub use Rattle.raw_image.specs.Shape.{header_view}
pub use Rattle.raw_image.specs.Stage.{Finishes, body_bytes, progress_of}
pub use Rattle.raw_image.specs.Words.{bytes_of, words_of}
pub use Rattle.raw_image.specs.declared.error.ImageError.{ImageError}
pub use Rattle.raw_image.specs.declared.error.ImageError.TheVariants.{BadField, BadMagic, NoMemory, TooShort, Trailing}
pub use Rattle.raw_image.specs.declared.header.Version.{Version}
pub use Rattle.raw_image.specs.declared.header.Version.TheVariants.{First, Second}
pub use Rattle.raw_image.specs.declared.stage.ReaderStage.{ReaderStage}
