-- What each step of a run may do to the media in the bays; what reads, writes and formats did if they were done; why a
-- request was refused; and how many data commands each request sends.
use Rattle.std.specs.Prelude.{◌≡◌, ◌+◌, ◌-◌, ◌*◌, ◌≤◌, ◌⊎◌, ◌&&◌, ℕ, ◌==◌, Bool, true, false, not, All, List, [], ◌∷◌, length, Option, Some, None, Result, option_map, MatchOption, if◌then◌else◌}
use Rattle.laws_program.specs.Common.{RoseBy, gap_at, standard_fill, sectors_at, Code, Chrn, Request, Counters, IsDriven, IsFaultless, Disk, IsRegularDisk, Reply, Reason, StationState, bay_of, met, State, IsSame, is_bay, is_acknowledged, is_protected, read_refusal, write_refusal, format_refusal, rate_refusal, refusal_of, reply_of, is_refusal, Taken}
use Rattle.flop_base.specs.declared.answers.Code.TheVariants.{BadRequest}
use Rattle.floppy_jobs.specs.declared.request.Request.TheVariants as request
use Rattle.sector_map.specs.Changes.{Change}
use Rattle.sector_map.specs.Layings.{Format, Laying, IsFormattable}
use Rattle.sector_map.specs.LaidDisks.{format_at}
use Rattle.sector_model.specs.declared.reply.Reply.TheVariants as reply
use Rattle.sector_model.specs.declared.reply.Reason.TheVariants as reason
use Rattle.sector_model.specs.Calls.{IsUnready}
use Rattle.sector_model.specs.Reads.{IsRead, IsReadRefused}
use Rattle.sector_model.specs.Writes.{IsWritten, IsWriteCause, Reaches, KeepsRegular, written_from}
use Rattle.sector_model.specs.Formats.{Lays, IsFormatted, IsFormatCause}

-- this holds of each step of a course, and of the state before it
abbrev pub EachStep : (State → Taken → Type 0) → State → List Taken → Type 0
EachStep P old [] = Unit {0}
EachStep P old (taken ∷ later) = P old taken × EachStep P taken.after later

-- both numbers name the same bay: 0 names the first, and any other number the second
abbrev pub is_same_bay : ℕ → ℕ → Bool
is_same_bay one other = if one == 0 then other == 0 else not (other == 0)

-- the request puts a medium into the bay, takes one out, or exchanges the drive
abbrev pub exchanges : ℕ → Request → Bool
exchanges bay (request.Insert at name) = is_same_bay at bay
exchanges bay (request.Blank at name cylinders) = is_same_bay at bay
exchanges bay (request.BlankDd at name cylinders) = is_same_bay at bay
exchanges bay (request.Eject at) = is_same_bay at bay
exchanges bay (request.Unit at) = is_same_bay at bay
exchanges bay (request.Ack at) = false
exchanges bay (request.Read at key address) = false
exchanges bay (request.Write at key address) = false
exchanges bay (request.WriteDeleted at key address) = false
exchanges bay (request.Format at c h) = false
exchanges bay (request.Fill address count byte) = false
exchanges bay (request.Dump address count) = false
exchanges bay (request.SetRate at rate) = false
exchanges bay (request.Tries tries) = false

-- nothing may be written in a bay: it isn't acknowledged, or its medium is protected
abbrev pub IsGuarded : StationState → ℕ → Type 0
IsGuarded station bay = (is_acknowledged station bay ≡ false) ⊎ (is_protected station bay ≡ true)

-- a step exchanged the medium or the drive of the bay: its request is to do so, and wasn't refused. (A request for a
-- bay above 1 is refused)
abbrev pub has_exchanged : ℕ → Taken → Bool
has_exchanged bay taken = not (is_refusal taken.answer) && exchanges bay taken.asked

-- the medium of such a guarded bay is the same after a step, unless the step exchanged it
abbrev pub KeepsGuarded : State → Taken → Type 0
KeepsGuarded old taken =
    (bay : ℕ) → has_exchanged bay taken ≡ false → IsGuarded old.station bay
    → (bay_of taken.after.station bay).medium ≡ (bay_of old.station bay).medium

-- a read that was done gave an intact field of its sector ID; and each read sent at most as many data commands as
-- attempts are set
abbrev pub ReadsField : State → Taken → Type 0
ReadsField old taken =
    (bay address : ℕ) (key : Chrn) → taken.asked ≡ request.Read bay key address
    → (is_refusal taken.answer ≡ false → (deleted : Bool) × IsRead bay key address old.station deleted taken.after.station)
    × IsDriven old.station.tries old.station.counters taken.after.station.counters

-- a write to a bay, with this mark
abbrev pub IsWrite : Request → ℕ → Chrn → ℕ → Bool → Type 0
IsWrite asked bay key address false = asked ≡ request.Write bay key address
IsWrite asked bay key address true = asked ≡ request.WriteDeleted bay key address

-- a write changed the medium in its bay by a few changes. Each change wrote a window after an address field of its
-- sector ID, or the beginning of such a window. If the write was done, a field of the sector ID has the mark and the
-- content
abbrev pub WritesField : State → Taken → Type 0
WritesField old taken =
    (bay address : ℕ) (key : Chrn) (deleted : Bool) → IsWrite taken.asked bay key address deleted
    → (changes : List Change) × (length changes ≤ old.station.tries)
    × Reaches (written_from old.station key address deleted) (bay_of old.station bay).medium changes (bay_of taken.after.station bay).medium
    × (is_refusal taken.answer ≡ false
    → IsWritten (written_from old.station key address deleted) bay changes old.station taken.after.station)

-- a write to a regular disk that reached the drive of its bay kept the disk regular. Either no field of the sector ID
-- was met, and the disk is as it was. Or one was met, at p; then that field alone changed, provided that nothing
-- disturbed the write, or that no address mark could come up in a write that stopped short
abbrev pub WritesAlone : ℕ → Chrn → ℕ → Bool → Disk → State → Taken → Type 0
WritesAlone bay key address deleted disk old taken =
    (called : Result (Unit {0}) Code) × (taken.answer ≡ reply_of called)
    × KeepsRegular (written_from old.station key address deleted) bay disk old.station called taken.after.station

-- a write to a regular disk, done or refused, left the medium as it was, or changed at most the field of its key
abbrev pub KeepsOtherFields : State → Taken → Type 0
KeepsOtherFields old taken =
    (bay address : ℕ) (key : Chrn) (deleted : Bool) → IsWrite taken.asked bay key address deleted
    → (disk : Disk) → (bay_of old.station bay).medium ≡ Some disk → IsRegularDisk disk
    → ((bay_of taken.after.station bay).medium ≡ Some disk) ⊎ WritesAlone bay key address deleted disk old taken

-- ---- Formats.

-- the standard format of a track, at the rate of its bay
abbrev pub format_in : StationState → ℕ → ℕ → ℕ → Format
format_in station bay c h = format_at c h (bay_of station bay).rate (gap_at (bay_of station bay).rate) standard_fill

-- a format changed the medium in its bay by a few layouts from the index on, no more than attempts are set. Each laid
-- the first words of the format on a track of its head; if the drive had no fault, on the track of its cylinder. If the
-- drive had no fault and the format was done, that track is formatted
pub record IsFormat (format : Format) (bay : ℕ) (old : StationState) (answer : Reply) (new : StationState) : Type 0 where
  pub layings : List Laying
  pub few : length layings ≤ old.tries
  pub lays : Lays format (bay_of old bay).medium layings (bay_of new bay).medium
  pub only : IsFaultless bay old.counters new.counters → All (λ laying. laying.cylinder ≡ format.c) layings
  pub done : is_refusal answer ≡ false → IsFaultless bay old.counters new.counters
      → IsFormattable format (bay_of old bay).medium × IsFormatted format (bay_of old bay).medium (bay_of new bay).medium

-- this holds of each format of a course, done or refused
abbrev pub FormatsTrack : State → Taken → Type 0
FormatsTrack old taken =
    (bay c h : ℕ) → taken.asked ≡ request.Format bay c h
    → IsFormat (format_in old.station bay c h) bay old.station taken.answer taken.after.station

-- ---- Refusals.

-- a refusal of the driver
abbrev pub by_driver : Option Code → Option Reason
by_driver refusal = option_map (λ code. reason.Driver code) refusal

-- the refusal of a request before a drive is asked, if there is one: the first line that applies of the order of
-- refusals
abbrev pub refusal_at_once : State → Request → Option Reason
refusal_at_once state (request.Ack bay) = if is_bay bay then None else Some (reason.Driver BadRequest)
refusal_at_once state (request.Read bay key address) = by_driver (read_refusal state.station bay key address)
refusal_at_once state (request.Write bay key address) = by_driver (write_refusal state.station bay key address)
refusal_at_once state (request.WriteDeleted bay key address) = by_driver (write_refusal state.station bay key address)
refusal_at_once state (request.Format bay c h) = by_driver (format_refusal state.station bay c h (gap_at (bay_of state.station bay).rate))
refusal_at_once state (request.SetRate bay rate) = by_driver (rate_refusal state.station bay)
refusal_at_once state asked = refusal_of state asked

-- why the drive refused a write, by what it changed
abbrev pub IsWriteRefused : ℕ → Chrn → ℕ → Bool → StationState → Code → StationState → Type 0
IsWriteRefused bay key address deleted old code new =
    (changes : List Change) × Reaches (written_from old key address deleted) (bay_of old bay).medium changes (bay_of new bay).medium
    × IsWriteCause (written_from old key address deleted) (met (bay_of old bay) key.c key.h) (met (bay_of new bay) key.c key.h) changes bay old code new

-- why the drive refused a request with this code
abbrev pub IsDriveCause : Request → State → Code → State → Type 0
IsDriveCause (request.Ack bay) old code new = IsUnready bay old.station code new.station
IsDriveCause (request.Read bay key address) old code new = IsReadRefused bay key address old.station code new.station
IsDriveCause (request.Write bay key address) old code new = IsWriteRefused bay key address false old.station code new.station
IsDriveCause (request.WriteDeleted bay key address) old code new = IsWriteRefused bay key address true old.station code new.station
IsDriveCause (request.Format bay c h) old code new =
    IsFormatCause (format_in old.station bay c h) (bay_of old.station bay).medium bay old.station code new.station
IsDriveCause _ old code new = ⊥

-- a request that the order refuses has that refusal as its answer, and nothing changed. Any other refusal is the
-- drive's, and has its cause
abbrev pub TellsCause : State → Taken → Type 0
TellsCause old taken =
    MatchOption (refusal_at_once old taken.asked)
    ((cause : Reason) → taken.answer ≡ reply.Refused cause
    → (code : Code) × (cause ≡ reason.Driver code) × IsDriveCause taken.asked old code taken.after)
    (λ cause. (taken.answer ≡ reply.Refused cause) × IsSame 6 old taken.after)

-- ---- Data commands.

-- the most data commands that a request sends. For each attempt a read sends one, a write two, and a format one and one
-- for each sector; an acknowledgement sends six, and any other request none
abbrev pub most_commands : StationState → Request → ℕ
most_commands station (request.Ack bay) = 6
most_commands station (request.Read bay key address) = station.tries
most_commands station (request.Write bay key address) = 2 * station.tries
most_commands station (request.WriteDeleted bay key address) = 2 * station.tries
most_commands station (request.Format bay c h) = station.tries * (1 + sectors_at (bay_of station bay).rate)
most_commands station _ = 0

-- at most so many data commands were sent, and an interrupt was taken for each
pub record Sends (most : ℕ) (old new : Counters) : Type 0 where
  pub commands : new.data_commands ≤ old.data_commands + most
  pub interrupts : RoseBy (new.data_commands - old.data_commands) old.taken new.taken

-- a step sent no more than its request may, whether it was done or refused
abbrev pub SendsFew : State → Taken → Type 0
SendsFew old taken = Sends (most_commands old.station taken.asked) old.station.counters taken.after.station.counters

-- the most data commands of a course
abbrev pub course_commands : StationState → List Taken → ℕ
course_commands station [] = 0
course_commands station (taken ∷ later) = most_commands station taken.asked + course_commands taken.after.station later
