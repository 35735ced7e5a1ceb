-- Runs of whole commands.
use Rattle.std.proofs.Common.{◌≡◌, ℕ, List, Result, Ok, Err, subst}
use Rattle.disk_commands.proofs.Common.{Rate, Status, World, Script, RunsScript, may_starve, Finishes, Runs, TellsStop, finished, fed, starved, ends_told, import_script, Imports}
use Rattle.flop_base.specs.declared.answers.Status.TheVariants as status
use Rattle.sector_model.specs.declared.reply.Stop.{Stop}
use Rattle.sector_model.specs.Texts.{stop_lines, stop_status}
use Rattle.disk_commands.specs.FlatFiles.{IsFlatFile, IsNotTaken, IsFlatFound}

-- a script whose first step takes memory was run, and there was memory for it
pub fed_first : (rest : Unit {0} → Script) (old new : World) (ended : Status)
    → Finishes (rest tt) old new ended → Runs (RunsScript (may_starve rest)) old new ended
fed_first rest old new ended goes =
    finished (may_starve rest) old new ended (λ whole start leads. goes whole start (fed whole start rest old leads))

-- such a script was run, and there was no memory for it
pub starved_first : (rest : Unit {0} → Script) (old : World) → Runs (RunsScript (may_starve rest)) old old status.NoMemory
starved_first rest old =
    finished (may_starve rest) old old status.NoMemory (λ whole start leads. starved whole start rest old leads)

-- a run of an import, after its flat file was found or wasn't
imported : (flat name : List ℕ) (found : Result (List ℕ × Rate) Stop) (old new : World) (ended : Status)
    → IsFlatFound old.files flat found → Finishes (import_script found name) old new ended → Runs (Imports flat name) old new ended
imported flat name found old new ended is goes =
    let ran = finished (import_script found name) old new ended goes in
    record { course = ran.course; does = (found, is, ran.does) }

-- an import was run after its flat file was loaded
pub imported_flat : (flat name bytes : List ℕ) (rate : Rate) (old mid new : World) (ended : Status)
    → mid ≡ old → IsFlatFile old.files flat bytes rate → Finishes (import_script (Ok (bytes, rate)) name) mid new ended → Runs (Imports flat name) old new ended
imported_flat flat name bytes rate old mid new ended same is goes =
    imported flat name (Ok (bytes, rate)) old new ended is
    (subst (λ (w : World). Finishes (import_script (Ok (bytes, rate)) name) w new ended) same goes)

-- an import told why its flat file isn't taken
pub not_taken : (flat name : List ℕ) (cause : Stop) (old mid new : World) (ended : Status)
    → mid ≡ old → IsNotTaken old.files flat cause → TellsStop cause mid new ended → Runs (Imports flat name) old new ended
not_taken flat name cause old mid new ended same is told =
    imported flat name (Err cause) old new ended is
    (λ whole start leads. ends_told whole start (stop_lines cause) (stop_status cause) old new ended
    (subst (λ (w : World). TellsStop cause w new ended) same told) leads)
