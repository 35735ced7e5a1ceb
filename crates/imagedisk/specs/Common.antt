-- What the words of this crate cite of others.
pub use Rattle.std.specs.List.{flat_map, list_all, list_any, starts_with}
pub use Rattle.flop_base.specs.Standard.{gap_at, standard_fill, words_at}
pub use Rattle.flop_base.specs.declared.answers.Rate.{Rate}
pub use Rattle.flop_base.specs.declared.answers.Rate.TheVariants.{R250, R500}
pub use Rattle.flop_base.specs.declared.key.Chrn.{Chrn}
pub use Rattle.raw_image.specs.Disk.{Disk, HasTrack, IsDisk, IsWithTrack, track_of}
pub use Rattle.raw_image.specs.declared.error.ImageError.{ImageError}
pub use Rattle.raw_image.specs.declared.error.ImageError.TheVariants.{BadMagic, TooShort}
pub use Rattle.track_format.specs.Gaps.{IsLargestGap, Suits}
pub use Rattle.track_model.specs.Cells.{IsInside, IsTrackSized}
pub use Rattle.track_model.specs.Fields.{AreAddresses, IsAddressAt, IsSizeCode, content_at, content_size}
pub use Rattle.track_model.specs.LaidFields.{IsKey, sector_place}
pub use Rattle.track_model.specs.Layouts.{Fits, laid_words, lay}
pub use Rattle.track_model.specs.Looks.{IsFirstDataMark, LookAt}
pub use Rattle.track_model.specs.Windows.{cut_of, damaged_window, empty_window, window_word, window_words}
pub use Rattle.track_model.specs.declared.Look.TheVariants.{BadCrc, Found, NoData}
