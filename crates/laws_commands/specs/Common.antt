-- What the words of this crate cite of others.
pub use Rattle.std.specs.List.{flat_map, range_with_len}
pub use Rattle.commands.specs.Leading.{Runs}
pub use Rattle.commands.specs.Scripts.{RunsScript}
pub use Rattle.disk_commands.specs.Copy.{copy_script}
pub use Rattle.disk_commands.specs.Export.{export_script}
pub use Rattle.disk_commands.specs.FlatFiles.{IsFlatFile}
pub use Rattle.disk_commands.specs.Format.{format_script}
pub use Rattle.disk_commands.specs.Import.{Imports}
pub use Rattle.disk_commands.specs.Logs.{IsLogFound}
pub use Rattle.disk_commands.specs.Rescue.{Rescues, asked_keys, last_text}
pub use Rattle.disk_commands.specs.Verify.{failure_line, verify_script, verify_text}
pub use Rattle.flop_base.specs.Bays.{in_bay}
pub use Rattle.flop_base.specs.Counters.{Counters, IsFaultless, IsUndisturbed}
pub use Rattle.flop_base.specs.Memory.{bytes_from, user_bytes}
pub use Rattle.flop_base.specs.Shelf.{Files, Store, file_at, stored}
pub use Rattle.flop_base.specs.Sink.{grown}
pub use Rattle.flop_base.specs.Standard.{gap_at, sectors_at, standard_code, standard_fill, words_at}
pub use Rattle.flop_base.specs.declared.answers.Code.{Code}
pub use Rattle.flop_base.specs.declared.answers.Rate.{Rate}
pub use Rattle.flop_base.specs.declared.answers.Rate.TheVariants.{R250, R500}
pub use Rattle.flop_base.specs.declared.answers.Status.{Status}
pub use Rattle.flop_base.specs.declared.key.Chrn.{Chrn}
pub use Rattle.floppy_jobs.specs.declared.request.Request.{Request}
pub use Rattle.floppy_session.specs.Shapes.{shape_of}
pub use Rattle.raw_image.specs.Disk.{Disk, HasTrack, IsDisk, track_of}
pub use Rattle.raw_image.specs.Image.{file_of}
pub use Rattle.rescue.specs.Course.{logged_keys, outcome_status, read_of}
pub use Rattle.rescue.specs.Log.{log_text}
pub use Rattle.rescue.specs.declared.line.LogLine.{LogLine}
pub use Rattle.sector_map.specs.Disks.{Entry, IsOnMap, IsRegularDisk, LookOn}
pub use Rattle.sector_map.specs.Failing.{AreFailing}
pub use Rattle.sector_map.specs.Flat.{IsSector, flat_length, sector_place}
pub use Rattle.sector_map.specs.Standard.{key_of, standard_keys, track_keys}
pub use Rattle.sector_model.specs.Plays.{World, whole_status}
pub use Rattle.sector_model.specs.Runs.{EndStopsAt, Ends, Run, Taken, has_refusal, requests_of}
pub use Rattle.sector_model.specs.States.{State}
pub use Rattle.sector_model.specs.Stations.{IsFresh, StationState, bay_of}
pub use Rattle.sector_model.specs.Steps.{IsImageOf, blank_of}
pub use Rattle.sector_model.specs.declared.reply.Reply.{Reply}
pub use Rattle.track_model.specs.Fields.{IsAddressAt, content_size}
pub use Rattle.track_model.specs.Laid.{IsLaid}
pub use Rattle.track_model.specs.Sectors.{IsPlain}
pub use Rattle.track_model.specs.declared.Look.{Look}
pub use Rattle.track_model.specs.declared.Look.TheVariants.{BadCrc, Found, NoData, NoMark, NoSector}
