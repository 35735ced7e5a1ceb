-- What the lemmas of this crate cite of others, and of its own words.
pub use Rattle.std.proofs.lemmas.Grind.{same_number_lists, take-set_at}
pub use Rattle.std.proofs.lemmas.List.{drop-drop, get_or-drop, get_or-take, length-set, take-append-drop, take-append-le, take_all, take_more}
pub use Rattle.std.specs.List.{range_with_len}
pub use Rattle.bios_int13.specs.Services.{AcksAlone, All, AreDone, DoesWork, MovesIn, MovesRecord, MovesRecords, Transfers, UpToOne, VerifiesRecords, ack_code, look_at, place_of_record, put_request, put_requests, record_behind, record_request, record_requests}
pub use Rattle.bios_int13.specs.declared.work.Kind.{Kind}
pub use Rattle.bios_int13.specs.declared.work.Kind.TheVariants.{Read, Verify, Write}
pub use Rattle.bios_int13.specs.declared.work.Work.{Work}
pub use Rattle.flop_base.specs.Lists.{with_items}
pub use Rattle.flop_base.specs.Memory.{SameOutside, bytes_from}
pub use Rattle.flop_base.specs.Shelf.{Files}
pub use Rattle.floppy_jobs.specs.declared.request.Request.{Request}
pub use Rattle.sector_model.specs.Runs.{Taken, has_refusal}
