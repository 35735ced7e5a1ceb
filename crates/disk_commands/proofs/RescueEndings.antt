-- How a rescue ends: its new log is stored, or there is no log that it can go by.
use Rattle.std.proofs.Common.{◌≡◌, ℕ, List, [], length, refl, sym, subst, ◌∙◌, Bool, is_some, Option, Some, None, Vec, Global}
use Rattle.disk_commands.proofs.Common.{Chrn, Status, World, Prints, Whole, IsPutFault, Shape, Script, Stores, Leads, Finishes, fed, starved, log_text, LogLine, lines_found, last_text, outcome_of, asked_keys, rescues_all}
use Rattle.flop_base.specs.declared.answers.Status.TheVariants as status
use Rattle.sector_model.specs.Plays.{Part}
use Rattle.rescue.specs.Course.{outcome_status}
use Rattle.rescue.specs.declared.outcome.Outcome.{Outcome}
use Rattle.disk_commands.specs.Rescue.{stores_log, rescue_found}

-- a last line with another status doesn't end with the status of a file fault
pub no_file_fault : (lines : List (List ℕ)) (wanted : Status) (report after : Option (List (List ℕ))) (ended : Status) → (wanted ≡ status.FileFault → ⊥)
    → Prints lines wanted report after ended → ended ≡ status.FileFault → ⊥
no_file_fault lines wanted report after ended other (Whole told same) is = other (sym same ∙ is)
no_file_fault lines wanted report after ended other (Part grows fault) is = subst IsPutFault is fault

-- the part of a script that is left, which stores the log
abbrev stores_last : List ℕ → ℕ → List LogLine → Script
stores_last log asked lines = Stores log (log_text lines) (last_text (outcome_of asked lines)) (outcome_status (outcome_of asked lines))

store_is : (log name : List ℕ) (asked : ℕ) (lines : List LogLine) (bytes : List ℕ) (outcome : Outcome) (wanted : Status)
    → name ≡ log → bytes ≡ log_text lines → outcome ≡ outcome_of asked lines → wanted ≡ outcome_status outcome
    → Stores name bytes (last_text outcome) wanted ≡ stores_last log asked lines
store_is log name asked lines bytes outcome wanted named text left status = cc

-- the new log is stored
pub log_stored : (log name : List ℕ) (asked : ℕ) (lines : List LogLine) (bytes : List ℕ) (outcome : Outcome) (wanted : Status)
    (old new : World) (ended : Status) → name ≡ log → bytes ≡ log_text lines → outcome ≡ outcome_of asked lines → wanted ≡ outcome_status outcome
    → Finishes (Stores name bytes (last_text outcome) wanted) old new ended → Finishes (stores_log log asked lines) old new ended
unfolding stores_log
log_stored log name asked lines bytes outcome wanted old new ended named text left status finishes whole start leads =
    finishes whole start
    (subst (λ (s : Script). Leads whole start s old) (sym (store_is log name asked lines bytes outcome wanted named text left status))
    (fed whole start (λ none. stores_last log asked lines) old leads))

-- ---- What a log that was found asks for.

some_lines : (found : Option (Vec LogLine Global)) → is_some found ≡ is_some (lines_found found)
some_lines None = refl
some_lines (Some lines) = refl

-- the rescue of the records that a found log asks for
abbrev with_keys : List ℕ → List ℕ → Shape → Bool → List Chrn → Script
with_keys to log shape logged keys = rescues_all to shape logged keys (stores_log log (length keys))

-- there was memory for the records that are asked for, and they are rescued
pub found_begins : (whole : Script) (start : World) (to log : List ℕ) (shape : Shape) (found : Option (Vec LogLine Global)) (logged : Bool)
    (keys : List Chrn) (now : World) → logged ≡ is_some found → keys ≡ asked_keys shape (lines_found found)
    → Leads whole start (rescue_found to log shape (lines_found found)) now → Leads whole start (with_keys to log shape logged keys) now
unfolding rescue_found
found_begins whole start to log shape found logged keys now is asked leads =
    subst (λ (b : Bool). Leads whole start (with_keys to log shape b keys) now) (sym (is ∙ some_lines found))
    (subst (λ (k : List Chrn). Leads whole start (with_keys to log shape (is_some (lines_found found)) k) now) (sym asked) (fed whole start _ now leads))

-- there was no memory for the records that are asked for
pub keys_starved : (to log : List ℕ) (shape : Shape) (found : Option (List LogLine)) (now : World)
    → Finishes (rescue_found to log shape found) now now status.NoMemory
unfolding rescue_found
keys_starved to log shape found now whole start leads = starved whole start _ now leads
