-- What the lemmas of this crate cite of others, and of its own words.
pub use Rattle.std.proofs.lemmas.List.{get_or-append-add, get_or-drop, get_or-take, get_or_append_left, length-replicate, replicate-append-replicate, take-append-drop}
pub use Rattle.flop_base.proofs.Costs.{costs_after, costs_none}
pub use Rattle.flop_base.proofs.Counted.{goes_on_after, goes_on_itself}
pub use Rattle.flop_base.specs.Bays.{Two, in_bay, with_bay}
pub use Rattle.flop_base.specs.Memory.{SameOutside, bytes_from, user_bytes}
pub use Rattle.flop_base.specs.declared.answers.Code.{Code}
pub use Rattle.flop_base.specs.declared.key.Chrn.{Chrn}
pub use Rattle.floppy_session.specs.Session.{IsRunning, state_of}
pub use Rattle.raw_image.specs.Disk.{Disk, IsWithTrack, track_of}
pub use Rattle.sector_model.specs.Calls.{RatesTo, SetsMemory}
pub use Rattle.sector_model.specs.Orders.{format_refusal, rate_refusal, read_refusal, write_refusal}
pub use Rattle.sector_model.specs.Reads.{Reads, ReadsDrive}
pub use Rattle.sector_model.specs.States.{ChangesMedium, IsNamed, IsSame, State}
pub use Rattle.sector_model.specs.Stations.{Bay, StationState, Stays, bay_of}
pub use Rattle.sector_model.specs.Steps.{Fills, Step, StopCause, StopsAt, StoresMedium, is_loaded, refusal_of}
