-- What a session requires of a request.
use Rattle.std.specs.Prelude.{◌≤◌}
use Rattle.floppy_jobs.specs.declared.request.Request.{Request}
use Rattle.floppy_jobs.specs.declared.request.Request.TheVariants as request

-- if the request sets the number of attempts, this number is from 1 to 10
abbrev pub HasTries : Request → Type 0
HasTries (request.Tries tries) = (1 ≤ tries) × (tries ≤ 10)
HasTries _ = Unit {0}
