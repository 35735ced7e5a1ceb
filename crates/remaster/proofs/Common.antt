-- What the lemmas of this crate cite of others, and of its own words.
pub use Rattle.std.proofs.lemmas.Bool.{cases_lt, false≢true}
pub use Rattle.std.proofs.lemmas.List.{append-nil, drop_all, drop_more, flat_map_more, get_or-map, get_or-replicate, get_or-take, get_or_default, get_or_past, length-map, length-replicate, map-append, take_all, take_at, take_more}
pub use Rattle.std.proofs.lemmas.List.Elements.{All-append, All-map, All-push}
pub use Rattle.std.proofs.lemmas.List.FromFn.{length-map-range_with_len, map-range_with_len_more}
pub use Rattle.std.proofs.lemmas.Result.{err_from_is_err_and}
pub use Rattle.std.specs.List.{AllPairs, flat_map, range_with_len}
pub use Rattle.flop_base.specs.Standard.{gap_at, standard_fill, words_at}
pub use Rattle.flop_base.specs.declared.answers.Rate.{Rate}
pub use Rattle.flop_base.specs.declared.key.Chrn.{Chrn}
pub use Rattle.raw_image.specs.Disk.{Disk, HasTrack, IsDisk, track_of}
pub use Rattle.remaster.specs.Fit.{HasSize, HasSizeCode, IsFit, IsFitTrack, IsOwnKey, IsPlanned, IsUnfitTrack, MayShare}
pub use Rattle.remaster.specs.Looked.{AreLooked, HasLook, field_of}
pub use Rattle.remaster.specs.Relaid.{HoldsSector, key_of, laid_with, with_sectors}
pub use Rattle.remaster.specs.Remastered.{HasShapeOf, IsDone, IsTrackError, IsTrackRemaster, IsUnfitIn, Remasters}
pub use Rattle.remaster.specs.Sectors.{AreSectors, found_at, found_by, sector_of}
pub use Rattle.remaster.specs.Survey.{AreLines, TrackNumber, cylinder_tracks, line_on, track_number}
pub use Rattle.remaster.specs.declared.looked.LookedField.{LookedField}
pub use Rattle.remaster.specs.declared.sectors.Sector.{Sector}
pub use Rattle.track_model.proofs.Unique.{one_key, one_look_at}
pub use Rattle.track_model.specs.Bytes.{byte_at, bytes_at}
pub use Rattle.track_model.specs.Fields.{AreAddresses, IsAddressAt, IsSizeCode, content_at, content_size}
pub use Rattle.track_model.specs.Kept.{KeepsOthers}
pub use Rattle.track_model.specs.Laid.{with_window}
pub use Rattle.track_model.specs.LaidFields.{HasEndRoom, HasLaidFields, IsKey, sector_place}
pub use Rattle.track_model.specs.Layouts.{lay}
pub use Rattle.track_model.specs.Looks.{LookAt}
pub use Rattle.track_model.specs.Regular.{IsRegular, IsSpaced}
pub use Rattle.track_model.specs.Windows.{cut_of, window_place, window_word}
pub use Rattle.track_model.specs.Writing.{window}
pub use Rattle.track_model.specs.declared.Field.{Field}
pub use Rattle.track_model.specs.declared.Look.{Look}
pub use Rattle.track_model.specs.declared.Look.TheVariants.{Found}
