-- When the answer for a line or a text is what it says.
use Rattle.std.specs.Prelude.{◌≡◌, ℕ, List, Option, Some, None, Result, Ok, Err}
use Rattle.floppy_jobs.specs.declared.lines.JobError.{JobError}
use Rattle.floppy_jobs.specs.declared.lines.JobError.TheVariants as job
use Rattle.floppy_jobs.specs.declared.lines.LineError.{LineError}
use Rattle.floppy_jobs.specs.declared.lines.LineError.TheVariants as line

-- the answer for a line is what the line spells, unless memory ran out
abbrev pub Reads : {T : Type 0} → Result T LineError → Option T → Type 0
Reads (Ok item) spelled = spelled ≡ Some item
Reads (Err line.NotUnderstood) spelled = spelled ≡ None
Reads (Err line.NoMemory) spelled = Unit {0}

-- the answer for a text is what the text says, unless memory ran out
abbrev pub ReadsText : {A T : Type 0} → (A → List T) → Result A JobError → Result (List T) ℕ → Type 0
ReadsText items (Ok kept) said = said ≡ Ok (items kept)
ReadsText items (Err (job.BadLine n)) said = said ≡ Err n
ReadsText items (Err job.NoMemory) said = Unit {0}
