-- What the words of this crate cite of others.
pub use Rattle.std.specs.Option.{option_map_or}
pub use Rattle.flop_base.specs.Bays.{Two, both, in_bay, with_bay}
pub use Rattle.flop_base.specs.Counters.{AccessesPortsUpTo, CostsUpTo, Counters, DisturbedLess, DriveCounts, FaultsRoseBy, FaultsRoseLess, GoesOn, IsDriven, IsFaultless, IsPastDriver, IsUndisturbed, LastsUpTo, TakesSpare, TellsLeft, faults_of}
pub use Rattle.flop_base.specs.Counts.{RoseBy, RoseOnce, last_count}
pub use Rattle.flop_base.specs.Lists.{with_items}
pub use Rattle.flop_base.specs.Memory.{SameOutside, bytes_from, user_bytes, zeroes}
pub use Rattle.flop_base.specs.Shelf.{Files, file_at, stored}
pub use Rattle.flop_base.specs.Standard.{gap_at, sectors_at, standard_fill, words_at}
pub use Rattle.flop_base.specs.declared.answers.Code.{Code}
pub use Rattle.flop_base.specs.declared.answers.Code.TheVariants.{BadCrc, BadRequest, Changed, NoMark, NotFound, NotReady, Overrun, Page, Protected, Seek}
pub use Rattle.flop_base.specs.declared.answers.Rate.{Rate}
pub use Rattle.flop_base.specs.declared.answers.Rate.TheVariants.{R250, R500}
pub use Rattle.flop_base.specs.declared.answers.Status.{Status}
pub use Rattle.flop_base.specs.declared.key.Chrn.{Chrn}
pub use Rattle.floppy_jobs.specs.Texts.{job_of}
pub use Rattle.floppy_jobs.specs.declared.request.Request.{Request}
pub use Rattle.raw_image.specs.Disk.{Disk, HasTrack, IsWithTrack, blank_disk, track_of}
pub use Rattle.raw_image.specs.declared.error.ImageError.{ImageError}
pub use Rattle.sector_map.specs.Met.{AllFound, HasClearAddress, HasLook, HasNoClearMark, met_in}
pub use Rattle.track_model.specs.Fields.{IsAddress, IsAddressAt, IsDataMark, IsSizeCode, IsWhole, content_at, content_size}
pub use Rattle.track_model.specs.Looks.{HasAddressMark, LookAt}
pub use Rattle.track_model.specs.Sectors.{IsClear, IsLone, IsSector, IsUnder}
