-- Which stores each subcommand (form) makes, however it ends.
use Rattle.std.specs.Prelude.{◌≡◌, List, Option, Some, None}
use Rattle.laws_program.specs.Common.{Files, Form, State, Taken, log_of, StoresRun, StoresDiskAlone, StoresFileAlone, StoresDiskThenLog}
use Rattle.floppy_words.specs.declared.form.Form.TheVariants as form

-- the stores of a subcommand whose requests were this course:
-- - A text of requests stores what is taken out, and what is left in at its end.
-- - A subcommand that makes a file stores that file.
-- - A rescue stores the disk, and then its log.
-- - A subcommand that only reads stores nothing.
abbrev pub StoresFor : Form → State → List Taken → Option Files → Option Files → Type 0
StoresFor (form.Play job) start course told after = StoresRun start course told after
StoresFor (form.Int13 calls) start course told after = StoresRun start course told after
StoresFor (form.Format name cylinders) start course told after = StoresDiskAlone name told after
StoresFor (form.FormatDd name cylinders) start course told after = StoresDiskAlone name told after
StoresFor (form.Copy from to) start course told after = StoresDiskAlone to told after
StoresFor (form.Import flat name) start course told after = StoresDiskAlone name told after
StoresFor (form.FromImd imd name) start course told after = StoresDiskAlone name told after
StoresFor (form.Remaster from to) start course told after = StoresDiskAlone to told after
StoresFor (form.Export name flat) start course told after = StoresFileAlone flat told after
StoresFor (form.ToImd name imd) start course told after = StoresFileAlone imd told after
StoresFor (form.Rescue from to log) start course told after = StoresDiskThenLog to log (log_of course) told after
StoresFor (form.Verify name) start course told after = after ≡ told
StoresFor (form.Survey name) start course told after = after ≡ told
StoresFor (form.Exercise seed count) start course told after = after ≡ told

-- arguments (words) that are no subcommand store nothing
abbrev pub StoresAsked : Option Form → State → List Taken → Option Files → Option Files → Type 0
StoresAsked (Some asked) start course told after = StoresFor asked start course told after
StoresAsked None start course told after = after ≡ told
