-- Scripts: what a command asks, request by request, depending on the answers so far, and what it prints and stores.
use Rattle.std.specs.Prelude.{◌≡◌, ℕ, List, [], ◌∷◌, ◌⊎◌, Option}
use Rattle.commands.specs.Common.{Files, stored, grown, GrowsByPart, Status, Request, Reply, Stop, State, Step, StopsAt, stop_lines, stop_status, Taken, World, Prints, IsPutFault}
use Rattle.flop_base.specs.declared.answers.Status.TheVariants as status
use Rattle.sector_model.specs.declared.reply.Reply.TheVariants as reply
use Rattle.commands.specs.LastLines.{stopped_text}

-- a script is one of these:
-- - last lines, with the status
-- - a line, and what follows
-- - a request, and what follows, as a function of its answer and of the state after it
-- - a file that is stored, and then the last line
-- - a place where memory may run out, and what follows if it doesn't
-- - a status, with no last line
pub data Script : Type 0 where
  Ends : List (List ℕ) → Status → Script
  Says : List ℕ → Script → Script
  Asks : Request → (Reply → State → Script) → Script
  Stores : List ℕ → List ℕ → List ℕ → Status → Script
  MayStarve : Script → Script
  Fails : Status → Script

-- nothing but the report changed
pub record IsPrinted (Printed : Option (List (List ℕ)) → Option (List (List ℕ)) → Type 0) (old new : World) : Type 0 where
  pub state : new.state ≡ old.state
  pub files : new.files ≡ old.files
  pub report : Printed old.report new.report

-- a part of a line was put, and that ended the command
abbrev pub IsCut : List ℕ → World → World → Status → Type 0
IsCut line old new ended = IsPrinted (λ before after. GrowsByPart before (line ∷ []) after) old new × IsPutFault ended

-- what ends a command when it stores a file: a fault of the file store (shelf), or that memory ran out
abbrev pub IsStoreFault : Status → Type 0
IsStoreFault status.FileFault = Unit {0}
IsStoreFault status.NoMemory = Unit {0}
IsStoreFault _ = ⊥

-- a file was stored, and the last line was put; or it couldn't be stored
pub data StoresLast (name bytes line : List ℕ) (wanted : Status) (old new : World) (ended : Status) : Type 0 where
  IsStored : new.state ≡ old.state → new.files ≡ stored old.files name bytes → Prints (line ∷ []) wanted old.report new.report ended
      → StoresLast name bytes line wanted old new ended
  NotStored : new ≡ old → IsStoreFault ended → StoresLast name bytes line wanted old new ended

-- a script was run by a course, up to its end or to what stopped it
abbrev pub RunsScript : Script → World → List Taken → World → Status → Type 0
RunsScript (Ends lines wanted) old [] new ended = IsPrinted (λ before after. Prints lines wanted before after ended) old new
RunsScript (Ends lines wanted) old (taken ∷ later) new ended = ⊥
RunsScript (Says line rest) old course new ended =
    RunsScript rest (record old { report = grown old.report (line ∷ []) }) course new ended
    ⊎ ((course ≡ []) × IsCut line old new ended)
RunsScript (Asks asked rest) old [] new ended =
    (cause : Stop) × StopsAt asked old.state old.files cause new.state new.files
    × Prints (stop_lines cause) (stop_status cause) old.report new.report ended
RunsScript (Asks asked rest) old (taken ∷ later) new ended =
    (taken.asked ≡ asked) × (files : Option Files)
    × Step asked old.state old.files taken.answer taken.after files
    × RunsScript (rest taken.answer taken.after) (record old { state = taken.after; files = files }) later new ended
RunsScript (Stores name bytes line wanted) old [] new ended = StoresLast name bytes line wanted old new ended
RunsScript (Stores name bytes line wanted) old (taken ∷ later) new ended = ⊥
RunsScript (MayStarve rest) old course new ended =
    RunsScript rest old course new ended ⊎ ((course ≡ []) × (new ≡ old) × (ended ≡ status.NoMemory))
RunsScript (Fails cause) old [] new ended = (new ≡ old) × (ended ≡ cause)
RunsScript (Fails cause) old (taken ∷ later) new ended = ⊥

-- a refusal ends a script, and any other answer goes on
abbrev pub unless_refused : Request → Reply → Script → Script
unless_refused asked (reply.Refused cause) later = Ends (stopped_text asked cause ∷ []) status.SomeRefused
unless_refused asked reply.Done later = later
unless_refused asked reply.DoneDeleted later = later
unless_refused asked (reply.Bytes address content) later = later
