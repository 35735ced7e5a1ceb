-- What the lemmas of this crate cite of others, and of its own words.
pub use Rattle.std.proofs.lemmas.Bool.{and_parts, cases_eq, cases_lt, cond_both, eqb-false, eqb-true}
pub use Rattle.std.proofs.lemmas.List.{length-drop, length-take}
pub use Rattle.std.proofs.lemmas.List.Elements.{All-push}
pub use Rattle.std.proofs.lemmas.List.FromFn.{get_or-map-range_with_len, length-map-range_with_len, map-range_with_len_more}
pub use Rattle.std.specs.Global.{Vec}
pub use Rattle.std.specs.List.{range_with_len}
pub use Rattle.flat_files.specs.Files.{AddsRecords, AreOfTracks, GivesFlat, GivesForm, HasMore, IsFileAgain, IsFlatAgain, IsOfForm, IsReached, Lack, has_deleted, is_plain, is_track, is_wanted, sector_on, sectors_on, standard_form}
pub use Rattle.flat_files.specs.Flats.{HasFlat, flat_image, flat_sector, flat_track, rate_of}
pub use Rattle.flat_files.specs.FormMaking.{HasForm, form_image, form_sector, form_track}
pub use Rattle.flat_files.specs.Forms.{IsForm, cylinder_of, file_length, head_of, sector_bytes, tracks_of}
pub use Rattle.flat_files.specs.declared.file_fault.FileFault.{FileFault}
pub use Rattle.flat_files.specs.declared.file_fault.FileFault.TheVariants.{Flat, NoForm}
pub use Rattle.flat_files.specs.declared.form.FlatForm.{FlatForm}
pub use Rattle.flop_base.specs.Standard.{gap_at, words_at}
pub use Rattle.flop_base.specs.declared.answers.Rate.{Rate}
pub use Rattle.flop_base.specs.declared.answers.Rate.TheVariants.{R250, R500}
pub use Rattle.flop_base.specs.declared.key.Chrn.{Chrn}
pub use Rattle.imagedisk.specs.Found.{HasImage, HasSectors, IsFoundAs}
pub use Rattle.imagedisk.specs.Images.{AreApart, IsImdImage, IsImdSector, IsImdTrack}
pub use Rattle.imagedisk.specs.Made.{IsCrowded, IsFirstCrowded, IsMadeTrack, IsMediumOf, MakesDisk, cylinder_count, has_other_side, head_count}
pub use Rattle.imagedisk.specs.declared.image.ImdImage.{ImdImage}
pub use Rattle.imagedisk.specs.declared.sector.ImdKind.TheVariants.{Absent, Deleted, Good}
pub use Rattle.imagedisk.specs.declared.sector.ImdSector.{ImdSector}
pub use Rattle.imagedisk.specs.declared.track.ImdTrack.{ImdTrack}
pub use Rattle.raw_image.specs.Disk.{Disk, HasTrack, track_of}
pub use Rattle.sector_map.specs.Flat.{IsDensity, sector_place}
pub use Rattle.track_format.specs.Gaps.{Suits, narrow_gap}
pub use Rattle.track_model.proofs.Unique.{one_key, one_look_at}
pub use Rattle.track_model.specs.Fields.{AreAddresses, IsAddressAt, content_at}
