-- What the words of this crate cite of others.
pub use Rattle.flop_base.specs.Standard.{sectors_at, standard_code}
pub use Rattle.flop_base.specs.declared.answers.Rate.{Rate}
pub use Rattle.flop_base.specs.declared.key.Chrn.{Chrn}
pub use Rattle.raw_image.specs.Disk.{Disk, HasTrack, IsDisk, IsWithTrack, track_of}
pub use Rattle.track_model.specs.Bytes.{byte_at, bytes_at, legal}
pub use Rattle.track_model.specs.Cells.{IsInside, IsTrackSized, cells_at}
pub use Rattle.track_model.specs.Crc.{crc}
pub use Rattle.track_model.specs.Fields.{AreAddresses, HasCheck, IsAddress, IsAddressAt, IsDataMark, IsSizeCode, after_marks, content_at, content_size, data_cells}
pub use Rattle.track_model.specs.Looks.{HasAddressMark, IsFirstAddress, IsFirstDataMark, IsIntact, LookAt, LookFor}
pub use Rattle.track_model.specs.Marks.{IsAddressMark, IsDataRun, IsRun, TouchesNoZero}
pub use Rattle.track_model.specs.Regular.{IsRegular, IsSpaced, span_cells}
pub use Rattle.track_model.specs.Sectors.{HasNoRunWithin, IsClear, IsPlain, IsSector}
pub use Rattle.track_model.specs.Windows.{HasFieldFor, IsCuttable, IsTidy, cut_of, damaged_window, empty_window, window_end, window_place, window_word, window_words}
pub use Rattle.track_model.specs.Writing.{address_field, sync_and_marks, window}
pub use Rattle.track_model.specs.declared.Look.{Look}
pub use Rattle.track_model.specs.declared.Look.TheVariants.{BadCrc, Found, NoData, NoMark, NoSector}
pub use Rattle.track_separator.specs.Hunts.{SAddressed, SFollows}
