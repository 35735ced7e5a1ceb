-- What the words of this crate cite of others.
pub use Rattle.std.specs.List.{flat_map, join_with_byte, range_with_len}
pub use Rattle.flop_base.specs.Standard.{gap_at, standard_fill, words_at}
pub use Rattle.flop_base.specs.declared.answers.Rate.{Rate}
pub use Rattle.flop_base.specs.declared.key.Chrn.{Chrn}
pub use Rattle.raw_image.specs.Disk.{Disk, HasTrack, IsDisk, IsWithTrack, track_of}
pub use Rattle.track_format.specs.Gaps.{IsLargestGap, Suits, wide_gap}
pub use Rattle.track_model.specs.Cells.{IsInside, IsTrackSized}
pub use Rattle.track_model.specs.Fields.{AreAddresses, IsAddressAt, IsSizeCode, content_at, content_size}
pub use Rattle.track_model.specs.Laid.{with_window}
pub use Rattle.track_model.specs.LaidFields.{IsKey, sector_place}
pub use Rattle.track_model.specs.Looks.{LookAt}
pub use Rattle.track_model.specs.Regular.{IsRegular, IsSpaced}
pub use Rattle.track_model.specs.declared.Look.{Look}
pub use Rattle.track_model.specs.declared.Look.TheVariants.{BadCrc, Found, NoData, NoMark, NoSector}
