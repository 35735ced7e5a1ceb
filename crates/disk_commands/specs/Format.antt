-- The script of a format.
use Rattle.std.specs.Prelude.{ℕ, ◌*◌, List, [], ◌∷◌, ◌++◌, codes}
use Rattle.disk_commands.specs.Common.{decimal, Rate, blank_request, Script, Ends, Part, carries, acknowledges, by_track, formats}
use Rattle.flop_base.specs.declared.answers.Status.TheVariants as status
use Rattle.floppy_jobs.specs.declared.request.Request.TheVariants as request

-- the last line says how many tracks were formatted
unfoldable pub format_text : ℕ → List ℕ
format_text tracks = codes "format ok " ++ (decimal tracks ++ codes "\n")

-- a disk of this many cylinders and two heads is made, formatted, and stored under this name
unfoldable pub formats_disk : List ℕ → ℕ → Rate → Part (Unit {0})
formats_disk name cylinders rate rest =
    carries (blank_request 0 name cylinders rate) (λ none.
    acknowledges 0 rate (λ none.
    by_track cylinders 2 (formats 0) tt (λ none.
    carries (request.Eject 0) rest)))

unfoldable pub format_script : List ℕ → ℕ → Rate → Script
format_script name cylinders rate = formats_disk name cylinders rate (λ none. Ends (format_text (cylinders * 2) ∷ []) status.AllOk)
