-- How code goes through a script, part by part.
use Rattle.std.specs.Prelude.{◌≡◌, ◌≢◌, ◌≤◌, ℕ, ◌+◌, ◌-◌, List, [], ◌∷◌, length, Option, Result, Ok, Err, IfOk, IfSome, IsErrOf, String, Vec, string_bytes}
use Rattle.std.specs.declared.alloc.Global.{Global}
use Rattle.commands.specs.Common.{Files, Loads, grown, GrowsByPart, LoadError, Status, Request, Reply, Stop, Blames, State, Step, StopsAt, stop_lines, stop_status, Taken, EndsBays, EndStopsAt, IsEndStop, World, Prints, Tells, IsPutFault}
use Rattle.flop_base.specs.declared.answers.LoadError.TheVariants as load
use Rattle.flop_base.specs.declared.answers.Status.TheVariants as status
use Rattle.commands.specs.Puts.{Printed}
use Rattle.commands.specs.Scripts.{Script, Ends, Stores, IsPrinted, RunsScript}
use Rattle.commands.specs.Parts.{Part, says, each}
use Rattle.commands.specs.Texts.{MissesText}

-- a script was run by some course
unfoldable pub IsRunOf : Script → World → World → Status → Type 0
IsRunOf script old new ended = (course : List Taken) × RunsScript script old course new ended

-- what was done of a script so far leads to what is left of it: each run of the rest is a run of the whole
unfoldable pub Leads : Script → World → Script → World → Type 0
Leads whole start left now = (new : World) (ended : Status) → IsRunOf left now new ended → IsRunOf whole start new ended

-- a part was gone through and found a value, or ended the script
abbrev pub Goes : {Found : Type 0} → Part Found → World → Result Found Status → World → Type 0
Goes {Found = Found} part old (Ok found) new =
    (whole : Script) (start : World) (rest : Found → Script) → Leads whole start (part rest) old → Leads whole start (rest found) new
Goes {Found = Found} part old (Err ended) new =
    (whole : Script) (start : World) (rest : Found → Script) → Leads whole start (part rest) old → IsRunOf whole start new ended

-- a request was gone through in the same way; what follows is given its answer and its state
abbrev pub Answers : ((Reply → State → Script) → Script) → World → Result Reply Status → World → Type 0
Answers part old (Ok answer) new =
    (whole : Script) (start : World) (rest : Reply → State → Script)
    → Leads whole start (part rest) old → Leads whole start (rest answer new.state) new
Answers part old (Err ended) new =
    (whole : Script) (start : World) (rest : Reply → State → Script) → Leads whole start (part rest) old → IsRunOf whole start new ended

-- a status with which a script may end by itself: it reports no fault, and not that the arguments are no subcommand
pub record IsTold (ended : Status) : Type 0 where
  pub form : ended ≢ status.BadWords
  pub shelf : ended ≢ status.FileFault
  pub sink : ended ≢ status.SinkFault

-- what was left of a script ended
abbrev pub Finishes : Script → World → World → Status → Type 0
Finishes left old new ended = (whole : Script) (start : World) → Leads whole start left old → IsRunOf whole start new ended

-- a line that was made was gone through in the same way, whatever it says
abbrev pub SaysLine : {Z E : Type 0} → Result (String Z) E → World → Result (Unit {0}) Status → World → Type 0
SaysLine line old result new = (text : List ℕ) → IfOk line (λ made. string_bytes made ≡ text) → Goes (says text) old result new

-- what was left was the last line, which was made
abbrev pub FinishesBy : {Z E : Type 0} → Result (String Z) E → Status → World → World → Status → Type 0
FinishesBy line wanted old new ended =
    (text : List ℕ) → IfOk line (λ made. string_bytes made ≡ text) → Finishes (Ends (text ∷ []) wanted) old new ended

-- what was left was a file to be stored, and then the last line, which was made
abbrev pub StoresBy : {Z E : Type 0} → List ℕ → List ℕ → Result (String Z) E → Status → World → World → Status → Type 0
StoresBy name bytes line wanted old new ended =
    (text : List ℕ) → IfOk line (λ made. string_bytes made ≡ text) → Finishes (Stores name bytes text wanted) old new ended

-- at a turn of a loop over numbers: the loop's other turns are left
abbrev pub IsAtTurn : {Found : Type 0} → ℕ → ℕ → (ℕ → Found → Part Found) → Found → World → ℕ → Found → World → Type 0
IsAtTurn {Found = Found} first count part begun old i found now =
    (whole : Script) (start : World) (rest : Found → Script)
    → Leads whole start (each first count part begun rest) old → Leads whole start (each i (first + count - i) part found rest) now

-- ---- Single calls, whatever they are a part of.

-- a request was answered, and nothing was printed; or it stopped the run, and the lines of that stop were printed
abbrev pub AsksOne : Request → World → Result Reply Status → World → Type 0
AsksOne asked old (Ok answer) new = Step asked old.state old.files answer new.state new.files × (new.report ≡ old.report)
AsksOne asked old (Err ended) new =
    (cause : Stop) × StopsAt asked old.state old.files cause new.state new.files
    × Prints (stop_lines cause) (stop_status cause) old.report new.report ended

-- lines were put whole, or a part of them was put
abbrev pub PutsLines : List (List ℕ) → World → Result (Unit {0}) Status → World → Type 0
PutsLines lines old (Ok done) new = IsPrinted (λ before after. after ≡ grown before lines) old new
PutsLines lines old (Err ended) new = IsPrinted (λ before after. GrowsByPart before lines after) old new × IsPutFault ended

-- a line that was made was put whole, or a part of it was put
abbrev pub PutsLine : {Z E : Type 0} → Result (String Z) E → World → Result (Unit {0}) Status → World → Type 0
PutsLine line old result new = (text : List ℕ) → IfOk line (λ made. string_bytes made ≡ text) → PutsLines (text ∷ []) old result new

-- a last line that was made was printed, and a command ended with this status
abbrev pub TellsLine : {Z E : Type 0} → Result (String Z) E → Status → World → World → Status → Type 0
TellsLine line wanted old new ended = (text : List ℕ) → IfOk line (λ made. string_bytes made ≡ text) → Tells text wanted old new ended

-- the last lines of a run that stopped were printed, and the command ended with this status
abbrev pub TellsStop : Stop → World → World → Status → Type 0
TellsStop cause old new ended = IsPrinted (λ before after. Prints (stop_lines cause) (stop_status cause) before after ended) old new

-- a text was loaded, and nothing changed; or it wasn't loaded, and the report says why, as far as there is a line for
-- it
abbrev pub LoadsText : List ℕ → ℕ → World → Result (Vec ℕ Global) Status → World → Type 0
LoadsText name most old (Ok text) new = (new ≡ old) × IfSome old.files (λ files. Loads files name most (Ok text))
LoadsText name most old (Err ended) new =
    (cause : LoadError) × IfSome old.files (λ files. Loads files name most (Err cause))
    × IsPrinted (λ before after. MissesText cause name before after ended) old new

-- what was left in the bays was stored, or storing a file stopped the run
abbrev pub Leaves : World → Result (Unit {0}) Status → World → Type 0
Leaves old (Ok done) new = EndsBays old.state old.files new.state new.files × (new.report ≡ old.report)
Leaves old (Err ended) new =
    (cause : Stop) × IsEndStop cause × EndStopsAt old.state old.files new.state new.files × (ended ≡ stop_status cause)
    × (new.report ≡ old.report)

-- ---- What a command holds.

-- what a command holds: a world, the faults that its file store (shelf) and its output (sink) counted, and the
-- references by which it has the session, the file store and the output
pub record Hand : Type 0 where
  pub world : World
  pub shelf_faults : ℕ
  pub sink_faults : ℕ
  pub session_ref : ℕ
  pub shelf_ref : ℕ
  pub out_ref : ℕ

-- the references are the same
pub record IsSameHand (old new : Hand) : Type 0 where
  pub session : new.session_ref ≡ old.session_ref
  pub shelf : new.shelf_ref ≡ old.shelf_ref
  pub out : new.out_ref ≡ old.out_ref

-- a command did this. Its arguments were a subcommand. If its status reports a fault, the fault was counted once; else
-- no fault was counted
pub record Ran {R : Type 0} (hand : R → Hand) (Does : World → World → Status → Type 0) (old new : R) (ended : Status) : Type 0 where
  pub does : Does (hand old).world (hand new).world ended
  pub is_form : ended ≢ status.BadWords
  pub shelf_faults : Blames (ended ≡ status.FileFault) (hand old).shelf_faults (hand new).shelf_faults
  pub sink_faults : Blames (ended ≡ status.SinkFault) (hand old).sink_faults (hand new).sink_faults
  pub same : IsSameHand (hand old) (hand new)

-- a part of a command did this, and its error is the status; the other clauses are those of a command
pub record RanPart {R T : Type 0} (hand : R → Hand) (Does : World → Result T Status → World → Type 0) (old : R) (result : Result T Status) (new : R) : Type 0 where
  pub goes : Does (hand old).world result (hand new).world
  pub is_form : result ≢ Err status.BadWords
  pub shelf_faults : Blames (IsErrOf result status.FileFault) (hand old).shelf_faults (hand new).shelf_faults
  pub sink_faults : Blames (IsErrOf result status.SinkFault) (hand old).sink_faults (hand new).sink_faults
  pub same : IsSameHand (hand old) (hand new)

-- a call printed how a command ended:
-- - its arguments were a subcommand
-- - its status reports a fault of the file store if and only if there was one before
-- - if its status reports a fault of the output, that fault was counted once; else none was counted
pub record RanLast {R : Type 0} (hand : R → Hand) (Does : World → World → Status → Type 0) (FileFault : Type 0) (old new : R) (ended : Status) : Type 0 where
  pub does : Does (hand old).world (hand new).world ended
  pub is_form : ended ≢ status.BadWords
  pub shelf_fault : ended ≡ status.FileFault → FileFault
  pub fault_told : FileFault → ended ≡ status.FileFault
  pub no_fault : (hand new).shelf_faults ≡ (hand old).shelf_faults
  pub sink_faults : Blames (ended ≡ status.SinkFault) (hand old).sink_faults (hand new).sink_faults
  pub same : IsSameHand (hand old) (hand new)

-- a file was loaded, or the result says why it wasn't. The world stays, and a fault of the file store was counted once
-- if it is the reason
pub record HasLoaded {R : Type 0} (hand : R → Hand) (name : List ℕ) (most : ℕ) (old : R) (result : Result (Vec ℕ Global) LoadError) (new : R) : Type 0 where
  pub gives : IfSome (hand old).world.files (λ files. Loads files name most result)
  pub fits : IfOk result (λ bytes. length bytes.items ≤ most)
  pub stays : (hand new).world ≡ (hand old).world
  pub shelf_faults : Blames (IsErrOf result load.Failed) (hand old).shelf_faults (hand new).shelf_faults
  pub no_fault : (hand new).sink_faults ≡ (hand old).sink_faults
  pub same : IsSameHand (hand old) (hand new)

-- only the session did something
pub record IsInSession {R : Type 0} (hand : R → Hand) (old new : R) : Type 0 where
  pub files : (hand new).world.files ≡ (hand old).world.files
  pub report : (hand new).world.report ≡ (hand old).world.report
  pub no_shelf_fault : (hand new).shelf_faults ≡ (hand old).shelf_faults
  pub no_sink_fault : (hand new).sink_faults ≡ (hand old).sink_faults
  pub same : IsSameHand (hand old) (hand new)

-- in the middle of a command `At` holds of the world at its beginning and the world now, and no fault was counted yet
pub record IsAmid {R : Type 0} (hand : R → Hand) (At : World → World → Type 0) (old now : R) : Type 0 where
  pub at : At (hand old).world (hand now).world
  pub counted : (hand now).shelf_faults ≡ (hand old).shelf_faults
  pub stays : (hand now).sink_faults ≡ (hand old).sink_faults
  pub same : IsSameHand (hand old) (hand now)

-- at a turn of a loop over numbers in a command
pub record IsTurning {R Found : Type 0} (hand : R → Hand) (first count : ℕ) (part : ℕ → Found → Part Found) (begun : Found) (old : R) (i : ℕ) (found : Found) (now : R) : Type 0 where
  pub amid : IsAmid hand (λ before after. IsAtTurn first count part begun before i found after) old now

-- what is done between two worlds, by some course
pub record Runs (Does : World → List Taken → World → Status → Type 0) (old new : World) (ended : Status) : Type 0 where
  pub course : List Taken
  pub does : Does old course new ended

-- ---- Calls that are given only the output.

-- a call that is given only the output printed how a command ended:
-- - its arguments were a subcommand
-- - its status reports a fault of the file store if and only if there was one before
-- - if its status reports a fault of the output, that fault was counted once; else none was counted
pub record Told (Tells : Option (List (List ℕ)) → Option (List (List ℕ)) → Status → Type 0) (FileFault : Type 0) (old new : Printed) (ended : Status) : Type 0 where
  pub tells : Tells old.report new.report ended
  pub is_form : ended ≢ status.BadWords
  pub shelf_fault : ended ≡ status.FileFault → FileFault
  pub fault_told : FileFault → ended ≡ status.FileFault
  pub sink_faults : Blames (ended ≡ status.SinkFault) old.faults new.faults

-- a world with another report
abbrev pub with_report : State → Option Files → Option (List (List ℕ)) → World
with_report state files report = record { state = state; files = files; report = report }
