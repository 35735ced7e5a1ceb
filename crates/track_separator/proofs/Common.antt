-- What the lemmas of this crate cite of others, and of its own words.
pub use Rattle.std.proofs.lemmas.Bool.{agree_below_at, cases_eq, cases_lt, cases_order, eq-eqb, eqb-true, false≢true, leb-false, leb-true, ltb-true, ne_eqb}
pub use Rattle.std.proofs.lemmas.List.{append-nil, ext_get_or, get_or-append_right, get_or-take, get_or_append_left, get_or_past, length-take-le, take_more}
pub use Rattle.std.proofs.lemmas.Nat.{and_mask, or_shifted, shr-shr}
pub use Rattle.std.proofs.lemmas.Nat.Bits.{bit_at-zero, bit_at_and, bit_at_cat_high, bit_at_cat_low, bit_at_ones, same_from_bits_below}
pub use Rattle.std.specs.Int.{bit_at}
pub use Rattle.flop_base.specs.declared.key.Chrn.{Chrn}
pub use Rattle.track_model.proofs.Numbers.{bit_at-number, number_ext, number_from_bits}
pub use Rattle.track_model.proofs.Places.{bit_at-cells_at, bytes_at-more, cell-lt, cell_in}
pub use Rattle.track_model.proofs.Unique.{one_first, one_key}
pub use Rattle.track_model.specs.Bytes.{byte_at, bytes_at}
pub use Rattle.track_model.specs.Cells.{cell, cells_at}
pub use Rattle.track_model.specs.Crc.{crc, crc_from}
pub use Rattle.track_model.specs.Fields.{HasCheck, IsAddress, IsAddressAt, IsDataMark, IsSizeCode, IsWhole, after_marks, content_at, content_size, data_cells}
pub use Rattle.track_model.specs.Looks.{IsFirstDataMark, IsIntact, LookAt}
pub use Rattle.track_model.specs.Marks.{IsAddressMark, IsDataRun, IsRun, IsSound, TouchesNoZero, data_byte}
pub use Rattle.track_model.specs.Sectors.{HasNoRunWithin}
pub use Rattle.track_separator.specs.Hunts.{FollowsIn, GivesAll, HuntSeenIn, HuntsIn, IsAddressed, IsAfterRun, IsAtByte, IsByteTaken, IsFollowed, SFollows, SHunts, Stands}
pub use Rattle.track_separator.specs.Parts.{EndsInLast, IsPart, turn_after, with_word}
pub use Rattle.track_separator.specs.Past.{BringsNoRun, EndsNoRun}
pub use Rattle.track_separator.specs.Register.{HasNoZeroFrom, HasRunBits, HasTail, IsBlank, IsFull, IsKeyIn, IsNext, IsShifted, IsTail, KeepsFrom, register_byte, register_check}
pub use Rattle.track_separator.specs.Stages.{since_in, size_in}
pub use Rattle.track_separator.specs.Turns.{AwaitsByteIn, BeginsIn, FedIn, Feeds, IsHunted, IsHuntedIn, IsTold, SAwaitsByte, SBegins, SFed, SReadCut, STurnEnded, SWaitCut, WantsIn}
pub use Rattle.track_separator.specs.Waits.{HasEnded, HasNoDataMark, IsMarkIn, IsMarked, IsPending, IsReading, IsUnfinished, IsWaiting, IsWaitingNext, ReadSeenIn, ReadsIn, SReadSeen, SReads, SWaitSeen, SWaits, TellsWhole, WaitSeenIn, WaitsIn}
pub use Rattle.track_separator.specs.declared.state.Seen.{Seen}
pub use Rattle.track_separator.specs.declared.state.Seen.TheVariants.{Address, Byte, End, Mark, Mode, NoData, Nothing}
pub use Rattle.track_separator.specs.declared.state.Separator.{Separator}
pub use Rattle.track_separator.specs.declared.state.Stage.{Stage}
pub use Rattle.track_separator.specs.declared.state.Stage.TheVariants.{Addressed, Content, Hunting, Reading, TurnEnded, Waiting}
