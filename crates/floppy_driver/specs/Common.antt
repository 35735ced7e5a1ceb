-- What the words of this crate cite of others.
pub use Rattle.std.specs.Option.{option_map_or}
pub use Rattle.flop_base.specs.Bays.{Two, in_bay, with_bay}
pub use Rattle.flop_base.specs.Counters.{CostsUpTo, Counters, DisturbedLess, DriveCounts, FaultsRoseBy, FaultsRoseLess, GoesOn, IsDriven, IsFaultless, IsUndisturbed, faults_of}
pub use Rattle.flop_base.specs.Counts.{RoseBy, last_count}
pub use Rattle.flop_base.specs.Memory.{SameOutside, bytes_from, user_bytes}
pub use Rattle.flop_base.specs.Standard.{sectors_at, standard_code}
pub use Rattle.flop_base.specs.declared.answers.Code.{Code}
pub use Rattle.flop_base.specs.declared.answers.Code.TheVariants.{BadCrc, NoMark, NotFound, Overrun, Seek}
pub use Rattle.flop_base.specs.declared.answers.Rate.{Rate}
pub use Rattle.flop_base.specs.declared.answers.Rate.TheVariants.{R250, R500}
pub use Rattle.flop_base.specs.declared.key.Chrn.{Chrn}
pub use Rattle.raw_image.specs.Disk.{Disk, HasTrack, IsDisk, track_of}
pub use Rattle.sector_map.specs.Changes.{Change, IsChange, Written, window_of}
pub use Rattle.sector_map.specs.Layings.{Format, IsFormattable, IsLaying, Laying, format_keys}
pub use Rattle.sector_map.specs.Met.{HasClearAddress, HasLook, HasNoClearMark, met_in}
pub use Rattle.sector_model.specs.Lasting.{format_once_port_accesses, format_steps, format_turns, turn_of}
pub use Rattle.sector_model.specs.Orders.{IsDeviceRefusal, is_bay, is_place}
pub use Rattle.sector_model.specs.Stations.{Bay, Becomes, IsSteady, StationState, Stays, bay_of, met, set_bay}
pub use Rattle.track_model.specs.Fields.{IsAddress, IsAddressAt, IsDataMark, IsSizeCode, IsWhole, content_size}
pub use Rattle.track_model.specs.Looks.{HasAddressMark}
pub use Rattle.track_model.specs.Sectors.{IsLone, IsSector, IsUnder}
pub use Rattle.track_model.specs.Windows.{window_word, window_words}
