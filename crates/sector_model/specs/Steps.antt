-- The step of each request. It leads from a state and files, if these are known, to an answer, a state and files.
use Rattle.std.specs.Prelude.{◌≡◌, ℕ, ◌+◌, ◌<◌, ◌≤◌, ◌==◌, ◌&&◌, Bool, true, false, nat_le, List, length, replicate, is_some, Option, Some, None, Result, Ok, Err, IfSome, IsSomeAnd, MatchOption, if◌then◌else◌}
use Rattle.sector_model.specs.Common.{Files, file_at, stored, words_at, gap_at, standard_fill, Rate, R500, R250, Code, BadRequest, Disk, blank_disk, ImageError, Request, in_bay, GoesOn, IsPastDriver, with_items, user_bytes, bytes_from}
use Rattle.raw_image.specs.Image.{image_of, file_of}
use Rattle.floppy_jobs.specs.declared.request.Request.TheVariants as request
use Rattle.sector_model.specs.declared.reply.Reply.{Reply}
use Rattle.sector_model.specs.declared.reply.Reply.TheVariants as reply
use Rattle.sector_model.specs.declared.reply.Reason.{Reason}
use Rattle.sector_model.specs.declared.reply.Reason.TheVariants as reason
use Rattle.sector_model.specs.declared.reply.Stop.{Stop}
use Rattle.sector_model.specs.declared.reply.Stop.TheVariants as stop
use Rattle.sector_model.specs.Stations.{Becomes, bay_of}
use Rattle.sector_model.specs.Lasting.{dump_port_accesses}
use Rattle.sector_model.specs.Orders.{is_bay}
use Rattle.sector_model.specs.Reads.{Reads}
use Rattle.sector_model.specs.Writes.{WritesTo}
use Rattle.sector_model.specs.Formats.{FormatsTo}
use Rattle.sector_model.specs.Calls.{Acks, RatesTo, SetsTries, IsExchanged}
use Rattle.sector_model.specs.States.{State, IsSame, ChangesMedium}

-- a bay has a medium
abbrev pub is_loaded : State → ℕ → Bool
is_loaded state bay = is_some (bay_of state.station bay).medium

-- why a medium isn't put into a bay
abbrev pub busy_refusal : State → ℕ → Option Reason
busy_refusal state bay = if is_loaded state bay then Some reason.Busy else None

-- a bad request, unless the test holds; if it holds, what comes next
abbrev pub unless_bad : Bool → Option Reason → Option Reason
unless_bad good next = if good then next else Some (reason.Driver BadRequest)

-- a blank medium has from 1 to 80 cylinders
abbrev pub is_blank_request : ℕ → ℕ → Bool
is_blank_request bay cylinders = is_bay bay && nat_le 1 cylinders && nat_le cylinders 80

-- no spare drive is left
abbrev pub spare_refusal : State → Option Reason
spare_refusal state = if state.station.spares == 0 then Some reason.NoSpare else None

-- the refusals that the session makes itself; those of the driver are in its calls
abbrev pub refusal_of : State → Request → Option Reason
refusal_of state (request.Insert bay name) = unless_bad (is_bay bay) (busy_refusal state bay)
refusal_of state (request.Blank bay name cylinders) = unless_bad (is_blank_request bay cylinders) (busy_refusal state bay)
refusal_of state (request.BlankDd bay name cylinders) = unless_bad (is_blank_request bay cylinders) (busy_refusal state bay)
refusal_of state (request.Eject bay) =
    unless_bad (is_bay bay) (if is_loaded state bay then None else Some reason.Empty)
refusal_of state (request.Fill address length byte) = unless_bad (nat_le (address + length) user_bytes) None
refusal_of state (request.Dump address length) = unless_bad (nat_le (address + length) user_bytes) None
refusal_of state (request.Unit bay) =
    unless_bad (is_bay bay) (if is_loaded state bay then Some reason.Busy else spare_refusal state)
refusal_of state (request.Ack bay) = None
refusal_of state (request.Read bay key address) = None
refusal_of state (request.Write bay key address) = None
refusal_of state (request.WriteDeleted bay key address) = None
refusal_of state (request.Format bay c h) = None
refusal_of state (request.SetRate bay rate) = None
refusal_of state (request.Tries tries) = None

-- the most bytes of an image file
abbrev pub most_image_bytes : ℕ
most_image_bytes = 5242894

-- the file of this name is the image of a disk, if the files are known
abbrev pub IsImageOf : Option Files → List ℕ → Disk → Type 0
IsImageOf told name disk =
    IfSome told (λ files. IsSomeAnd (file_at files name)
    (λ bytes. (length bytes ≤ most_image_bytes) × (image_of bytes ≡ Ok disk)))

-- a blank disk of two heads
abbrev pub blank_of : ℕ → Rate → Disk
blank_of cylinders rate = blank_disk cylinders 2 (words_at rate) rate

-- the reply to a call of the driver
abbrev pub reply_of : Result (Unit {0}) Code → Reply
reply_of (Ok _) = reply.Done
reply_of (Err code) = reply.Refused (reason.Driver code)

-- the reply to a read
abbrev pub read_reply : Result Bool Code → Reply
read_reply (Ok true) = reply.DoneDeleted
read_reply (Ok false) = reply.Done
read_reply (Err code) = reply.Refused (reason.Driver code)

-- a call of the driver leaves names and files as they are
pub record IsDriverCall (old : State) (told : Option Files) (new : State) (told_after : Option Files) : Type 0 where
  pub names : new.names ≡ old.names
  pub files : told_after ≡ told
  pub counts : GoesOn old.station.counters new.station.counters

-- the file of a medium was stored under its name, and the medium is out
abbrev pub StoresMedium : ℕ → State → Option Files → State → Option Files → Type 0
StoresMedium bay old told new told_after =
    (disk : Disk) × (name : List ℕ) × ((bay_of old.station bay).medium ≡ Some disk) × (in_bay old.names bay ≡ Some name)
    × ChangesMedium bay None None old new × (told_after ≡ stored told name (file_of disk))

-- memory was filled
pub record Fills (address count byte : ℕ) (old new : State) : Type 0 where
  pub names : new.names ≡ old.names
  pub becomes : Becomes (record old.station { memory = with_items old.station.memory address (replicate count byte) }) new.station
  pub access : IsPastDriver count old.station.counters new.station.counters
  pub counts : GoesOn old.station.counters new.station.counters

-- what a request that the session doesn't refuse does
abbrev pub Does : Request → State → Option Files → Reply → State → Option Files → Type 0
Does (request.Insert bay name) old told answer new told_after =
    (answer ≡ reply.Done) × (told_after ≡ told)
    × ((disk : Disk) × IsImageOf told name disk × ChangesMedium bay (Some name) (Some disk) old new)
Does (request.Blank bay name cylinders) old told answer new told_after =
    (answer ≡ reply.Done) × (told_after ≡ told)
    × ChangesMedium bay (Some name) (Some (blank_of cylinders R500)) old new
Does (request.BlankDd bay name cylinders) old told answer new told_after =
    (answer ≡ reply.Done) × (told_after ≡ told)
    × ChangesMedium bay (Some name) (Some (blank_of cylinders R250)) old new
Does (request.Eject bay) old told answer new told_after =
    (answer ≡ reply.Done) × StoresMedium bay old told new told_after
Does (request.Ack bay) old told answer new told_after =
    IsDriverCall old told new told_after
    × ((called : Result (Unit {0}) Code) × (answer ≡ reply_of called) × Acks bay old.station called new.station)
Does (request.Read bay key address) old told answer new told_after =
    IsDriverCall old told new told_after
    × ((called : Result Bool Code) × (answer ≡ read_reply called) × Reads bay key address old.station called new.station)
Does (request.Write bay key address) old told answer new told_after =
    IsDriverCall old told new told_after
    × ((called : Result (Unit {0}) Code) × (answer ≡ reply_of called)
    × WritesTo bay key address false old.station called new.station)
Does (request.WriteDeleted bay key address) old told answer new told_after =
    IsDriverCall old told new told_after
    × ((called : Result (Unit {0}) Code) × (answer ≡ reply_of called)
    × WritesTo bay key address true old.station called new.station)
Does (request.Format bay c h) old told answer new told_after =
    IsDriverCall old told new told_after
    × ((called : Result (Unit {0}) Code) × (answer ≡ reply_of called)
    × FormatsTo bay c h (gap_at (bay_of old.station bay).rate) standard_fill old.station called new.station)
Does (request.Fill address count byte) old told answer new told_after =
    (answer ≡ reply.Done) × (told_after ≡ told) × Fills address count byte old new
Does (request.Dump address count) old told answer new told_after =
    (answer ≡ reply.Bytes address (bytes_from old.station.memory address count)) × (told_after ≡ told) × IsSame (dump_port_accesses count) old new
Does (request.Unit bay) old told answer new told_after =
    (answer ≡ reply.Done) × (told_after ≡ told) × (new.names ≡ old.names) × IsExchanged bay old.station new.station
Does (request.SetRate bay rate) old told answer new told_after =
    IsDriverCall old told new told_after
    × ((called : Result (Unit {0}) Code) × (answer ≡ reply_of called) × RatesTo bay rate old.station called new.station)
Does (request.Tries tries) old told answer new told_after =
    IsDriverCall old told new told_after × (answer ≡ reply.Done) × SetsTries tries old.station new.station

-- a request that the session refused
pub record IsRefused (cause : Reason) (old : State) (told : Option Files) (answer : Reply) (new : State) (told_after : Option Files) : Type 0 where
  pub answered : answer ≡ reply.Refused cause
  pub same : IsSame 0 old new
  pub files : told_after ≡ told

-- the step of a request
abbrev pub Step : Request → State → Option Files → Reply → State → Option Files → Type 0
Step asked old told answer new told_after =
    MatchOption (refusal_of old asked) (Does asked old told answer new told_after)
    (λ cause. IsRefused cause old told answer new told_after)

-- the request loads or stores a file
abbrev pub uses_files : Request → Bool
uses_files (request.Insert bay name) = true
uses_files (request.Eject bay) = true
uses_files _ = false

-- the request takes memory
abbrev pub takes_memory : Request → Bool
takes_memory (request.Insert bay name) = true
takes_memory (request.Blank bay name cylinders) = true
takes_memory (request.BlankDd bay name cylinders) = true
takes_memory (request.Eject bay) = true
takes_memory (request.Dump address length) = true
takes_memory _ = false

-- the file of this name is no image, for this reason, if the files are known
abbrev pub IsBadImage : Option Files → List ℕ → ImageError → Type 0
IsBadImage told name error =
    IfSome told (λ files. IsSomeAnd (file_at files name)
    (λ bytes. (length bytes ≤ most_image_bytes) × (image_of bytes ≡ Err error)))

-- the file of this name is longer than `most` bytes, if the files are known
abbrev pub IsLonger : Option Files → List ℕ → ℕ → Type 0
IsLonger told name most = IfSome told (λ files. IsSomeAnd (file_at files name) (λ bytes. most < length bytes))

-- no file has this name, if the files are known
abbrev pub IsAbsent : Option Files → List ℕ → Type 0
IsAbsent told name = IfSome told (λ files. file_at files name ≡ None)

-- why a request stopped the run
abbrev pub StopCause : Option Files → Request → Stop → Type 0
StopCause told asked (stop.BadImage name error) = ((bay : ℕ) × (asked ≡ request.Insert bay name)) × IsBadImage told name error
StopCause told asked (stop.TooLong name most) =
    ((bay : ℕ) × (asked ≡ request.Insert bay name)) × (most ≡ most_image_bytes) × IsLonger told name most
StopCause told asked (stop.Absent name) = ((bay : ℕ) × (asked ≡ request.Insert bay name)) × IsAbsent told name
StopCause told asked stop.FileFault = uses_files asked ≡ true
StopCause told asked stop.NoMemory = takes_memory asked ≡ true

-- the state after a stop: an eject dropped the medium, and all else is as it was
abbrev pub AfterStop : Request → State → State → Type 0
AfterStop (request.Eject bay) old new = ChangesMedium bay None None old new
AfterStop _ old new = IsSame 0 old new

-- a request that the session didn't refuse stopped the run
pub record StopsAt (asked : Request) (old : State) (told : Option Files) (ended : Stop) (new : State) (told_after : Option Files) : Type 0 where
  pub taken : refusal_of old asked ≡ None
  pub cause : StopCause told asked ended
  pub after : AfterStop asked old new
  pub files : told_after ≡ told
