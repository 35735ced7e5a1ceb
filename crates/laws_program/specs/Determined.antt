-- Two plays of one job side by side: when they begin alike, answer alike and end alike.
use Rattle.std.specs.Prelude.{◌≡◌, ◌<◌, ◌^◌, ◌⊎◌, ℕ, List, [], ◌∷◌, length, slice_index, Option, Some}
use Rattle.laws_program.specs.Common.{Files, file_at, grown, Status, Disk, IsRegularDisk, Reply, IsFresh, StationState, State, Taken, course_lines, World, HasNothingLeft}
use Rattle.flop_base.specs.declared.answers.Status.TheVariants as status
use Rattle.sector_model.specs.declared.reply.Reply.TheVariants as reply

-- ---- the beginning

-- a station before its first request, where nothing is left that could go wrong
pub record IsSound (station : StationState) : Type 0 where
  pub fresh : IsFresh station
  pub nothing_left : HasNothingLeft station.counters

-- each file is a list of bytes
abbrev pub AreBytes : Files → Type 0
AreBytes files = (name bytes : List ℕ) → file_at files name ≡ Some bytes → (k : ℕ) → slice_index bytes k < 2 ^ 8

-- two plays begin on such stations, with as many spare drives, the same names and the same told files, whatever was
-- stored before
pub record BeginAlike (one two : World) : Type 0 where
  pub first : IsSound one.state.station
  pub second : IsSound two.state.station
  pub spares : two.state.station.spares ≡ one.state.station.spares
  pub names : two.state.names ≡ one.state.names
  pub files : Files
  pub others : Files
  pub told : one.files ≡ Some files
  pub told_too : two.files ≡ Some others
  pub same : others.held ≡ files.held
  pub bytes : AreBytes files

-- ---- the disks

-- the disk in a bay is regular, if one is in
abbrev pub IsRegularIn : Option Disk → Type 0
IsRegularIn medium = (disk : Disk) → medium ≡ Some disk → IsRegularDisk disk

-- the disks in both bays are regular
pub record HasRegularDisks (state : State) : Type 0 where
  pub first : IsRegularIn state.station.bays.first.medium
  pub second : IsRegularIn state.station.bays.second.medium

-- the disks in both bays are regular whenever a request of a course comes
abbrev pub AreRegularBefore : State → List Taken → Type 0
AreRegularBefore state [] = Unit {0}
AreRegularBefore state (taken ∷ later) = HasRegularDisks state × AreRegularBefore taken.after later

-- ---- the answers

-- two answers are the same, or both are dumps of as many bytes from the same address
abbrev pub AnswerAlike : Reply → Reply → Type 0
AnswerAlike (reply.Bytes address content) other =
    (bytes : List ℕ) × (other ≡ reply.Bytes address bytes) × (length bytes ≡ length content)
AnswerAlike reply.Done other = other ≡ reply.Done
AnswerAlike reply.DoneDeleted other = other ≡ reply.DoneDeleted
AnswerAlike (reply.Refused cause) other = other ≡ reply.Refused cause

-- two courses answer alike, request by request, as far as both go and while the disks of the first are regular
abbrev pub AnswersAgree : State → List Taken → List Taken → Type 0
AnswersAgree state [] other = Unit {0}
AnswersAgree state (taken ∷ later) [] = Unit {0}
AnswersAgree state (taken ∷ later) (next ∷ rest) =
    HasRegularDisks state
    → (next.asked ≡ taken.asked) × AnswerAlike taken.answer next.answer × AnswersAgree taken.after later rest

-- ---- the end

-- the outside ended a play: the file store or the output failed, or memory ran out
abbrev pub IsFreeEnd : Status → Type 0
IsFreeEnd status.FileFault = Unit {0}
IsFreeEnd status.SinkFault = Unit {0}
IsFreeEnd status.NoMemory = Unit {0}
IsFreeEnd _ = ⊥

-- two plays answered as many requests, printed the same after the answers, and ended with the same status
pub record EndAlike (one two : World) (course other : List Taken) (one_after two_after : World) (ended other_ended : Status) : Type 0 where
  pub as_many : length other ≡ length course
  pub lines : List (List ℕ)
  pub first : one_after.report ≡ grown (grown one.report (course_lines course)) lines
  pub second : two_after.report ≡ grown (grown two.report (course_lines other)) lines
  pub status : other_ended ≡ ended

-- two plays ended in this way, unless the outside ended one of them
abbrev pub EndAlikeUnlessFree : World → World → List Taken → List Taken → World → World → Status → Status → Type 0
EndAlikeUnlessFree one two course other one_after two_after ended other_ended =
    IsFreeEnd ended ⊎ IsFreeEnd other_ended ⊎ EndAlike one two course other one_after two_after ended other_ended
