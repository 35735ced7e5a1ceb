-- What the lemmas of this crate cite of others, and of its own words.
pub use Rattle.std.proofs.lemmas.Bool.{cases_eq, cases_lt, false≢true, le-leb, lt-leb}
pub use Rattle.std.proofs.lemmas.Grind.{common_steps, same_number_lists}
pub use Rattle.std.proofs.lemmas.List.{ext_get_or, get_or-drop, get_or-replicate, get_or-take, get_or_append_left, get_or_past, length-append, length-drop, length-take}
pub use Rattle.std.proofs.lemmas.Result.{err_from_is_err_and}
pub use Rattle.std.specs.Option.{option_map_or}
pub use Rattle.flop_base.proofs.Counted.{faults_go_on, goes_on_after, goes_on_itself}
pub use Rattle.flop_base.specs.Bays.{Two, in_bay, with_bay}
pub use Rattle.flop_base.specs.Counters.{CostsUpTo, Counters, DisturbedLess, DriveCounts, FaultsRoseBy, FaultsRoseLess, GoesOn, IsDriven, IsFaultless, IsUndisturbed, faults_of}
pub use Rattle.flop_base.specs.Counts.{RoseBy, last_count}
pub use Rattle.flop_base.specs.Memory.{SameOutside, bytes_from, user_bytes}
pub use Rattle.flop_base.specs.Standard.{sectors_at, standard_code}
pub use Rattle.flop_base.specs.declared.answers.Code.{Code}
pub use Rattle.flop_base.specs.declared.answers.Code.TheVariants.{BadCrc, BadRequest, Changed, NoMark, NotFound, NotReady, Overrun, Page, Protected, Seek}
pub use Rattle.flop_base.specs.declared.answers.Rate.{Rate}
pub use Rattle.flop_base.specs.declared.answers.Rate.TheVariants.{R250, R500}
pub use Rattle.flop_base.specs.declared.key.Chrn.{Chrn}
pub use Rattle.floppy_driver.specs.Acknowledged.{ClearsChange, FindsRate, HasStart, IsHeldSince, IsSpoilt, OnlyReads, Works}
pub use Rattle.floppy_driver.specs.Attached.{IsAttached, IsNoted}
pub use Rattle.floppy_driver.specs.Attempts.{CanTry, IsSure}
pub use Rattle.floppy_driver.specs.Formattings.{EndsFormat, FormatsIn, HasOnlyMedium, HoldsRecord, HoldsRecords, IsAttemptRefusal, IsBlankUnder, IsFilled, IsReadBackMiss, IsValidFormat, ReadsRecords, format_of}
pub use Rattle.floppy_driver.specs.Heads.{MovesHeads}
pub use Rattle.floppy_driver.specs.Prepared.{IsPrepared}
pub use Rattle.floppy_driver.specs.Reading.{FindsField, IsReadCode, IsReadMiss, IsReadReason, ReadsBack, ReadsData, ReadsId, SendsRead}
pub use Rattle.floppy_driver.specs.Readings.{IsReadFailed, IsReadWhole, TriesRead}
pub use Rattle.floppy_driver.specs.Rigs.{AreBytes, CostsFor, HeadsStay, IsSound, OnlyAsks, Rig, StaysSpun, track_under, turn_in}
pub use Rattle.floppy_driver.specs.Shown.{HasAsked, bay_shown, is_held, notes_of, shown, with_notes, with_waiting}
pub use Rattle.floppy_driver.specs.Writing.{CanFormatUnder, ChangesMedium, FormatsTrack, HasTrackUnder, IsFormatCode, IsWriteCode, IsWriteMiss, IsWriteReason, LaysMedium, SendsWrite, WritesData}
pub use Rattle.floppy_driver.specs.Writings.{AreBytesAlike, CanWrite, ChangesBay, IsMissCause, IsReadBack, TriesWrite, WritesChecked, WroteWhole}
pub use Rattle.floppy_driver.specs.declared.driver.Driver.{Driver}
pub use Rattle.floppy_driver.specs.declared.driver.Notes.{Notes}
pub use Rattle.floppy_driver.specs.declared.retry_plan.Prepare.{Prepare}
pub use Rattle.raw_image.specs.Disk.{Disk, HasTrack, IsDisk, track_of}
pub use Rattle.sector_map.proofs.Changed.{change_is_written, change_keeps_tracks, length-window_of}
pub use Rattle.sector_map.proofs.KeptTracks.{alike_both, alike_itself, still_meets}
pub use Rattle.sector_map.proofs.MetTracks.{length-met_track, met_cases, met_from_mark, met_track, one_met}
pub use Rattle.sector_map.proofs.RegularTracks.{key_cylinder, one_address, regular_writable, spaced_from, window_in_disk, window_inside}
pub use Rattle.sector_map.proofs.Rewritten.{rewritten_cylinder, rewritten_keeps_address, rewritten_keeps_sectors, rewritten_keeps_tracks, rewritten_more, rewritten_whole}
pub use Rattle.sector_map.proofs.Writable.{FitsKey, IsSameOrChanged}
pub use Rattle.sector_map.specs.ChangedDisks.{HasWritten, IsWholeChange, change_at, entry_of}
pub use Rattle.sector_map.specs.Changes.{Change, IsChange, Written, window_of}
pub use Rattle.sector_map.specs.Disks.{IsOnMap, IsRegularDisk}
pub use Rattle.sector_map.specs.KeptDisks.{AreAlike}
pub use Rattle.sector_map.specs.Layings.{CanFormat, Format, IsFormattable, IsLaying, Laying, format_keys, formatted}
pub use Rattle.sector_map.specs.Met.{AllFound, HasClearAddress, HasLook, HasNoClearMark, met_in}
pub use Rattle.sector_map.specs.MetTracks.{HasNothing, MeetsTrack}
pub use Rattle.sector_map.specs.Standard.{key_of}
pub use Rattle.sector_model.specs.Calls.{Acks, AcksDrive, HasClearStart, HasNoStart, RatesTo, SetsRate, TellsChange}
pub use Rattle.sector_model.specs.Formats.{FormatsDrive, FormatsTo, IsFormatCause, IsFormatted, IsUnformatted, Lays, LaysDisk}
pub use Rattle.sector_model.specs.Lasting.{format_once_port_accesses, format_port_accesses, format_steps, format_time, format_turns, read_port_accesses, read_time, time_in, turn_of, write_port_accesses, write_time}
pub use Rattle.sector_model.specs.Orders.{IsDeviceRefusal, IsRefusedAtOnce, crosses_page, is_acknowledged, is_bay, is_format_request, is_place, is_protected, is_sector_request, most_format_gap}
pub use Rattle.sector_model.specs.Reads.{IsRead, Reads, ReadsDrive, spoilable}
pub use Rattle.sector_model.specs.Stations.{Bay, Becomes, IsSteady, StationState, Stays, bay_of, fresh_bay, met, set_bay}
pub use Rattle.sector_model.specs.Writes.{ChangesDisk, HasOtherContent, HasWindowCut, IsLastRead, IsLastWhole, IsWritten, KeepsRegular, Reaches, WritesDrive, WritesTo, written_from}
pub use Rattle.track_model.proofs.Unique.{one_look_at}
pub use Rattle.track_model.specs.Fields.{IsAddress, IsAddressAt, IsSizeCode, content_at, content_size}
pub use Rattle.track_model.specs.Layouts.{Fits}
pub use Rattle.track_model.specs.Looks.{HasAddressMark, LookAt}
pub use Rattle.track_model.specs.Regular.{IsRegular}
pub use Rattle.track_model.specs.Sectors.{IsLone, IsSector, IsUnder}
pub use Rattle.track_model.specs.Windows.{IsCut, IsFieldFor, IsTidy, cut_of, window_place}
pub use Rattle.track_model.specs.declared.Look.{Look}
