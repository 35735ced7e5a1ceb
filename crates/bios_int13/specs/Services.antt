-- Calls of INT 13h: the requests that a call runs, one after the other, and its answer.
use Rattle.std.specs.Prelude.{◌≡◌, ℕ, ◌+◌, ◌*◌, ◌==◌, ◌||◌, false, List, [], ◌∷◌, ◌++◌, length, map, slice_index, Option, Result, Ok, Err, MatchBool, ◌⊎◌, if◌then◌else◌}
use Rattle.std.specs.List.{range_with_len}
use Rattle.flop_base.specs.Numbers.{code_number}
use Rattle.flop_base.specs.Shelf.{Files}
use Rattle.flop_base.specs.declared.key.Chrn.{Chrn}
use Rattle.flop_base.specs.declared.answers.Code.{Code}
use Rattle.flop_base.specs.Memory.{bytes_from}
use Rattle.floppy_jobs.specs.declared.request.Request.{Request}
use Rattle.floppy_jobs.specs.declared.request.Request.TheVariants as request
use Rattle.sector_model.specs.declared.reply.Reply.{Reply}
use Rattle.sector_model.specs.declared.reply.Reply.TheVariants as reply
use Rattle.sector_model.specs.declared.reply.Reason.TheVariants as reason
use Rattle.sector_model.specs.Orders.{is_acknowledged}
use Rattle.sector_model.specs.States.{State, IsSame}
use Rattle.sector_model.specs.Steps.{Step, reply_of}
use Rattle.sector_model.specs.Texts.{is_refusal}
use Rattle.sector_model.specs.Runs.{Taken, Run, requests_of, has_refusal}
use Rattle.bios_int13.specs.Registers.{ah, al, gives_parameters}
use Rattle.bios_int13.specs.Table.{work_of, ah_after, al_after, carry_after}
use Rattle.bios_int13.specs.declared.regs.Regs.{Regs}
use Rattle.bios_int13.specs.declared.work.Kind.{Kind}
use Rattle.bios_int13.specs.declared.work.Kind.TheVariants.{Write, Verify}
use Rattle.bios_int13.specs.declared.work.Work.{Work}
use Rattle.bios_int13.specs.declared.work.Work.TheVariants.{Answer, Changed, Move}

-- ---- What is requested.

-- the sector ID of a record, counted from the first record
abbrev pub record_behind : Chrn → ℕ → Chrn
record_behind first i = record first { r = first.r + i }

-- Where a record is in memory: the records follow each other there. A verify reads each record to the same place.
abbrev pub place_of_record : Kind → ℕ → ℕ → ℕ
place_of_record Verify address i = address
place_of_record _ address i = address + 512 * i

-- the request for one record
abbrev pub record_request : Kind → ℕ → Chrn → ℕ → Request
record_request Write bay key address = request.Write bay key address
record_request _ bay key address = request.Read bay key address

-- the requests for this many records, in order
unfoldable pub record_requests : Kind → ℕ → Chrn → ℕ → ℕ → List Request
record_requests kind bay first address count =
    map (λ i. record_request kind bay (record_behind first i) (place_of_record kind address i)) (range_with_len 0 count)

-- the request that puts one byte of a list to memory; the list begins at this address
abbrev pub put_request : ℕ → List ℕ → ℕ → Request
put_request address bytes i = request.Fill (address + i) 1 (slice_index bytes i)

unfoldable pub put_requests : ℕ → List ℕ → List Request
put_requests address bytes = map (put_request address bytes) (range_with_len 0 (length bytes))

-- Asking whether a bay is acknowledged changes nothing. As a step it is a dump of no bytes.
abbrev pub look_at : State → Taken
look_at after = record { asked = request.Dump 0 0; answer = reply.Bytes 0 []; after = after }

-- ---- The result of the requests.

-- these requests were run, and none of them was refused
pub record AreDone (requests : List Request) (old : State) (told : Option Files) (course : List Taken) (new : State) : Type 0 where
  pub run : Run old told course new told
  pub asked : requests_of course ≡ requests
  pub fine : has_refusal course ≡ false

-- the request for a record was run, and it was refused with this code, or wasn't refused
abbrev pub MovesRecord : Request → State → Option Files → Result (Unit {0}) Code → State → Type 0
MovesRecord asked old told (Ok _) new =
    (answer : Reply) × (is_refusal answer ≡ false) × Step asked old told answer new told
MovesRecord asked old told (Err code) new = Step asked old told (reply.Refused (reason.Driver code)) new told

-- Records were moved up to the first one that was refused. Its code is the answer, and no later record was requested.
pub record StopsAtRecord (asked : List Request) (old : State) (told : Option Files) (course : List Taken) (code moved : ℕ) (new : State) : Type 0 where
  pub done : List Request
  pub next : Request
  pub later : List Request
  pub before : List Taken
  pub mid : State
  pub cause : Code
  pub parts : asked ≡ done ++ next ∷ later
  pub done_well : AreDone done old told before mid
  pub many : moved ≡ length done
  pub step : Step next mid told (reply.Refused (reason.Driver cause)) new told
  pub course_is : course ≡ before ++ record { asked = next; answer = reply.Refused (reason.Driver cause); after = new } ∷ []
  pub code_is : code ≡ code_number cause

-- records are moved one after the other: all of them, or those up to the first one that is refused
pub data MovesRecords (asked : List Request) (old : State) (told : Option Files) (course : List Taken) (code moved : ℕ) (new : State) : Type 0 where
  All : AreDone asked old told course new → moved ≡ length asked → code ≡ 0 → MovesRecords asked old told course code moved new
  UpToOne : StopsAtRecord asked old told course code moved new → MovesRecords asked old told course code moved new

-- records are read to an address, and then the 512 bytes that were there are put back
pub record VerifiesRecords (address : ℕ) (asked : List Request) (old : State) (told : Option Files) (course : List Taken) (code moved : ℕ) (new : State) : Type 0 where
  pub reads : List Taken
  pub puts : List Taken
  pub mid : State
  pub course_is : course ≡ reads ++ puts
  pub moves : MovesRecords asked old told reads code moved mid
  pub puts_back : AreDone (put_requests address (bytes_from old.station.memory address 512)) mid told puts new
  pub memory : new.station.memory ≡ old.station.memory

-- the records of a transfer in an acknowledged bay are moved
abbrev pub MovesIn : Kind → ℕ → List Request → State → Option Files → List Taken → ℕ → ℕ → State → Type 0
MovesIn Verify address asked old told course code moved new = VerifiesRecords address asked old told course code moved new
MovesIn _ address asked old told course code moved new = MovesRecords asked old told course code moved new

-- the answer if a bay had to be acknowledged first: 06, or the code of the acknowledgement if it was refused
abbrev pub ack_code : Result (Unit {0}) Code → ℕ
ack_code (Ok _) = 0x06
ack_code (Err code) = code_number code

-- a bay is acknowledged, and no record is moved
pub record AcksAlone (bay : ℕ) (old : State) (told : Option Files) (course : List Taken) (code moved : ℕ) (new : State) : Type 0 where
  pub answer : Result (Unit {0}) Code
  pub step : Step (request.Ack bay) old told (reply_of answer) new told
  pub course_is : course ≡ record { asked = request.Ack bay; answer = reply_of answer; after = new } ∷ []
  pub code_is : code ≡ ack_code answer
  pub codes : (code ≡ 0x06) ⊎ (code ≡ 0x80)
  pub none : moved ≡ 0

-- The call looks at the bay first. Then it moves the records, or does the acknowledgement that has to come first.
pub record Transfers (kind : Kind) (bay : ℕ) (first : Chrn) (count address : ℕ) (old : State) (told : Option Files) (course : List Taken) (code moved : ℕ) (new : State) : Type 0 where
  pub looked : State
  pub same : IsSame 2 old looked
  pub later : List Taken
  pub course_is : course ≡ look_at looked ∷ later
  pub goes : MatchBool (is_acknowledged old.station bay)
      (MovesIn kind address (record_requests kind bay first address count) looked told later code moved new)
      (AcksAlone bay looked told later code moved new)

-- a call with a planned answer runs no request and changes nothing
pub record IsAnswered (planned : ℕ) (old : State) (course : List Taken) (code moved : ℕ) (new : State) : Type 0 where
  pub nothing : course ≡ []
  pub same : new ≡ old
  pub code_is : code ≡ planned
  pub none : moved ≡ 0

-- a call answers whether a bay is acknowledged
pub record TellsChanged (bay : ℕ) (old : State) (course : List Taken) (code moved : ℕ) (new : State) : Type 0 where
  pub course_is : course ≡ look_at new ∷ []
  pub same : IsSame 2 old new
  pub code_is : code ≡ (if is_acknowledged old.station bay then 0x00 else 0x06)
  pub none : moved ≡ 0

-- the work of a call was done by a course of requests, with this code, and this many records were moved
abbrev pub DoesWork : Work → State → Option Files → List Taken → ℕ → ℕ → State → Type 0
DoesWork (Answer planned) old told course code moved new = IsAnswered planned old course code moved new
DoesWork (Changed bay) old told course code moved new = TellsChanged bay old course code moved new
DoesWork (Move kind bay c h r count address) old told course code moved new =
    Transfers kind bay (record { c = c; h = h; r = r; n = 2 }) count address old told course code moved new

-- ---- The whole call.

-- the registers after a call with this code, and the status that is kept for the next call
pub record HasAnswered (status : ℕ) (regs : Regs) (code moved : ℕ) (answered : Regs) (kept : ℕ) : Type 0 where
  pub in_ah : ah answered ≡ ah_after regs code
  pub in_al : al answered ≡ al_after regs moved
  pub in_bx : answered.bx ≡ (if gives_parameters regs then 0x0004 else regs.bx)
  pub in_cx : answered.cx ≡ (if gives_parameters regs then 0x4F12 else regs.cx)
  pub in_dx : answered.dx ≡ (if gives_parameters regs then 0x0102 else regs.dx)
  pub in_es : answered.es ≡ regs.es
  pub carry : answered.carry ≡ carry_after regs code
  pub kept_is : kept ≡ (if ah regs == 0x01 || ah regs == 0x15 then status else code)

-- a call is served: its work is done, and the registers and the status say what the result was
pub record Serves (status : ℕ) (regs : Regs) (old : State) (told : Option Files) (answered : Regs) (kept : ℕ) (course : List Taken) (new : State) : Type 0 where
  pub code : ℕ
  pub moved : ℕ
  pub work : DoesWork (work_of status regs) old told course code moved new
  pub answer : HasAnswered status regs code moved answered kept
