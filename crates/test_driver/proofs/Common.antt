-- What the lemmas of this crate cite of others, and of its own words.
pub use Rattle.std.proofs.lemmas.Bool.{eqb-false, eqb-true, false≢true}
pub use Rattle.std.proofs.lemmas.List.{drop-drop, get_or-append-add, get_or-drop, get_or-take, get_or_append_left, length-append, length-drop, length-take, take_all, take_more_set, with_items_is}
pub use Rattle.flop_base.proofs.Counted.{drive_same}
pub use Rattle.flop_base.specs.Bays.{Two, in_bay, with_bay}
pub use Rattle.flop_base.specs.Counters.{Counters, GoesOn, IsDriven}
pub use Rattle.flop_base.specs.Memory.{SameOutside, bytes_from}
pub use Rattle.flop_base.specs.declared.answers.Code.{Code}
pub use Rattle.flop_base.specs.declared.answers.Code.TheVariants.{NoMark, Overrun}
pub use Rattle.flop_base.specs.declared.answers.Rate.{Rate}
pub use Rattle.flop_base.specs.declared.key.Chrn.{Chrn}
pub use Rattle.floppy_driver.specs.Rigs.{Rig, track_under}
pub use Rattle.floppy_driver.specs.Writing.{ChangesMedium, FormatsTrack, HasTrackUnder, HasWindowOut, IsFormatMiss, IsWriteMiss, LaysMedium, SendsWrite, WritesData}
pub use Rattle.raw_image.specs.Disk.{Disk, HasTrack, IsDisk, IsWithTrack, track_of}
pub use Rattle.sector_map.proofs.MetTracks.{met_track, nothing_from, nothing_in, nothing_there, one_met}
pub use Rattle.sector_map.proofs.RegularTracks.{length-track_of}
pub use Rattle.sector_map.proofs.Writable.{FitsKey}
pub use Rattle.sector_map.specs.ChangedDisks.{change_at, written_under}
pub use Rattle.sector_map.specs.Changes.{Change, IsChange, Written, window_of}
pub use Rattle.sector_map.specs.Layings.{Format, IsLaying, Laying, format_keys, formatted}
pub use Rattle.sector_map.specs.Met.{met_in}
pub use Rattle.sector_map.specs.MetTracks.{HasNothing, MeetsTrack}
pub use Rattle.sector_map.specs.Standard.{track_keys}
pub use Rattle.test_driver.specs.Counted.{HasSent}
pub use Rattle.test_driver.specs.Drives.{SameDrive}
pub use Rattle.test_driver.specs.Found.{FindsOn, IsMissedOn, IsUnderHead, RefusedAs}
pub use Rattle.test_driver.specs.Put.{ChangesOn, HasFieldOn, IsAbsent, IsCutTo, IsWriteRefusal, PutsWindow, WritesOn}
pub use Rattle.test_driver.specs.Shown.{rig_of, rig_shown}
pub use Rattle.test_driver.specs.declared.counts.BenchCounts.{BenchCounts}
pub use Rattle.test_driver.specs.declared.drive.BenchDrive.{BenchDrive}
pub use Rattle.track_model.proofs.Sizes.{content_size_bound}
pub use Rattle.track_model.specs.Bytes.{bytes_at}
pub use Rattle.track_model.specs.Fields.{IsAddressAt, content_at, content_size}
pub use Rattle.track_model.specs.Layouts.{Fits, laid_words, lay}
pub use Rattle.track_model.specs.Looks.{LookFor}
pub use Rattle.track_model.specs.Windows.{cut_of, window_word, window_words}
pub use Rattle.track_model.specs.declared.Look.{Look}
