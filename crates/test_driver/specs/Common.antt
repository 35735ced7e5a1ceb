-- What the words of this crate cite of others.
pub use Rattle.flop_base.specs.Bays.{Two, in_bay, with_bay}
pub use Rattle.flop_base.specs.Counters.{Counters, DriveCounts, FaultsRoseBy, IsFaultless, IsUndisturbed}
pub use Rattle.flop_base.specs.Counts.{RoseBy, RoseLess, last_count}
pub use Rattle.flop_base.specs.Memory.{bytes_from, user_bytes}
pub use Rattle.flop_base.specs.declared.answers.Code.{Code}
pub use Rattle.flop_base.specs.declared.answers.Code.TheVariants.{NoMark, Overrun}
pub use Rattle.flop_base.specs.declared.answers.Rate.{Rate}
pub use Rattle.flop_base.specs.declared.key.Chrn.{Chrn}
pub use Rattle.floppy_driver.specs.Attached.{CanSetUp, IsAttached}
pub use Rattle.floppy_driver.specs.Reading.{IsReadCode, ReadsBack, ReadsData, ReadsId, SendsRead}
pub use Rattle.floppy_driver.specs.Rigs.{IsSound, Rig}
pub use Rattle.floppy_driver.specs.Writing.{FormatsTrack, IsFormatCode, IsWriteCode, IsWriteReason, WritesData}
pub use Rattle.raw_image.specs.Disk.{Disk, HasTrack, IsDisk, IsWithTrack, track_of}
pub use Rattle.sector_map.specs.Changes.{Change, IsChange, Written, window_of}
pub use Rattle.sector_map.specs.Layings.{Format, IsLaying, Laying, format_keys}
pub use Rattle.sector_map.specs.Met.{met_in}
pub use Rattle.sector_map.specs.MetTracks.{HasNothing, MeetsTrack}
pub use Rattle.track_model.specs.Cells.{IsInside, IsTrackSized}
pub use Rattle.track_model.specs.Fields.{IsAddressAt, IsSizeCode, content_at, content_size}
pub use Rattle.track_model.specs.Layouts.{Fits, laid_words, lay}
pub use Rattle.track_model.specs.Looks.{HasAddressMark, LookFor}
