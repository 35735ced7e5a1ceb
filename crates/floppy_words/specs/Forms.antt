-- What the words of the command line spell: a verb, and the words after it.
use Rattle.std.specs.Prelude.{◌≡◌, ◌==◌, ℕ, Bool, slice_index, List, [], ◌∷◌, Option, Some, None, IsSome, Result, Ok, Err, codes, if◌then◌else◌}
use Rattle.flop_base.specs.declared.answers.NoMemory.{NoMemory}
use Rattle.std.specs.Str.{bytes_eq}
use Rattle.floppy_jobs.specs.Names.{name_of}
use Rattle.floppy_jobs.specs.Numbers.{number_of}
use Rattle.floppy_jobs.specs.Requests.{◌>>=◌}
use Rattle.floppy_words.specs.declared.form.Form.{Form}
use Rattle.floppy_words.specs.declared.form.Form.TheVariants as form

-- one to ten decimal digits, 1 to 80
unfoldable pub cylinders_of : List ℕ → Option ℕ
cylinders_of word = number_of 10 1 10 1 80 word

-- play JOB
unfoldable pub play_of : List (List ℕ) → Option Form
play_of (word ∷ []) = do
  job ← name_of word
  Some (form.Play job)
play_of _ = None

-- NAME CYLS
unfoldable pub disk_of : List (List ℕ) → Option (List ℕ × ℕ)
disk_of (word ∷ count ∷ []) = do
  name ← name_of word
  cylinders ← cylinders_of count
  Some (name, cylinders)
disk_of _ = None

-- format NAME CYLS
unfoldable pub format_of : List (List ℕ) → Option Form
format_of words = do
  disk ← disk_of words
  Some (form.Format disk.0 disk.1)

-- formatdd NAME CYLS
unfoldable pub formatdd_of : List (List ℕ) → Option Form
formatdd_of words = do
  disk ← disk_of words
  Some (form.FormatDd disk.0 disk.1)

-- copy FROM TO
unfoldable pub copy_of : List (List ℕ) → Option Form
copy_of (source ∷ target ∷ []) = do
  from ← name_of source
  to ← name_of target
  Some (form.Copy from to)
copy_of _ = None

-- verify NAME
unfoldable pub verify_of : List (List ℕ) → Option Form
verify_of (word ∷ []) = do
  name ← name_of word
  Some (form.Verify name)
verify_of _ = None

-- two names
unfoldable pub names_of : List (List ℕ) → Option (List ℕ × List ℕ)
names_of (one ∷ other ∷ []) = do
  first ← name_of one
  second ← name_of other
  Some (first, second)
names_of _ = None

-- fromimd IMD NAME
unfoldable pub fromimd_of : List (List ℕ) → Option Form
fromimd_of words = do
  names ← names_of words
  Some (form.FromImd names.0 names.1)

-- toimd NAME IMD
unfoldable pub toimd_of : List (List ℕ) → Option Form
toimd_of words = do
  names ← names_of words
  Some (form.ToImd names.0 names.1)

-- survey NAME
unfoldable pub survey_of : List (List ℕ) → Option Form
survey_of (word ∷ []) = do
  name ← name_of word
  Some (form.Survey name)
survey_of _ = None

-- remaster FROM TO
unfoldable pub remaster_of : List (List ℕ) → Option Form
remaster_of words = do
  names ← names_of words
  Some (form.Remaster names.0 names.1)

-- import FLAT NAME
unfoldable pub import_of : List (List ℕ) → Option Form
import_of words = do
  names ← names_of words
  Some (form.Import names.0 names.1)

-- export NAME FLAT
unfoldable pub export_of : List (List ℕ) → Option Form
export_of words = do
  names ← names_of words
  Some (form.Export names.0 names.1)

-- one to ten decimal digits, at most 2,147,483,647
unfoldable pub seed_of : List ℕ → Option ℕ
seed_of word = number_of 10 1 10 0 2147483647 word

-- one to ten decimal digits, at most 2,000
unfoldable pub count_of : List ℕ → Option ℕ
count_of word = number_of 10 1 10 0 2000 word

-- the workload that a seed and a count spell
unfoldable pub workload_of : List ℕ → List ℕ → Option Form
workload_of seed count = do
  first ← seed_of seed
  most ← count_of count
  Some (form.Exercise first most)

-- exercise SEED COUNT
unfoldable pub exercise_of : List (List ℕ) → Option Form
exercise_of (seed ∷ count ∷ []) = workload_of seed count
exercise_of _ = None

-- int13 FILE
unfoldable pub int13_of : List (List ℕ) → Option Form
int13_of (word ∷ []) = do
  calls ← name_of word
  Some (form.Int13 calls)
int13_of _ = None

-- rescue FROM TO LOG
unfoldable pub rescue_of : List (List ℕ) → Option Form
rescue_of (source ∷ target ∷ list ∷ []) = do
  from ← name_of source
  to ← name_of target
  log ← name_of list
  Some (form.Rescue from to log)
rescue_of _ = None

-- the form that the words spell; the first word decides which
unfoldable pub form_of : List (List ℕ) → Option Form
form_of [] = None
form_of (verb ∷ words) =
    if bytes_eq verb (codes "play") then play_of words
    else (if bytes_eq verb (codes "format") then format_of words
    else (if bytes_eq verb (codes "formatdd") then formatdd_of words
    else (if bytes_eq verb (codes "copy") then copy_of words
    else (if bytes_eq verb (codes "verify") then verify_of words
    else (if bytes_eq verb (codes "fromimd") then fromimd_of words
    else (if bytes_eq verb (codes "toimd") then toimd_of words
    else (if bytes_eq verb (codes "survey") then survey_of words
    else (if bytes_eq verb (codes "remaster") then remaster_of words
    else (if bytes_eq verb (codes "import") then import_of words
    else (if bytes_eq verb (codes "export") then export_of words
    else (if bytes_eq verb (codes "exercise") then exercise_of words
    else (if bytes_eq verb (codes "int13") then int13_of words
    else (if bytes_eq verb (codes "rescue") then rescue_of words
    else None)))))))))))))

-- ports FILE: a text of port accesses. It has no driver, and is no form
unfoldable pub ports_file_of : List (List ℕ) → Option (List ℕ)
ports_file_of (verb ∷ word ∷ []) = if bytes_eq verb (codes "ports") then name_of word else None
ports_file_of _ = None

-- the words were read as what they spell; memory can run out only where they spell something
abbrev pub Reads : {T : Type 0} → Result (Option T) NoMemory → Option T → Type 0
Reads (Ok read) spelled = read ≡ spelled
Reads (Err _) spelled = IsSome spelled

-- a word that looks like an option
abbrev pub begins_with_dash : List ℕ → Bool
begins_with_dash word = slice_index word 0 == 45
