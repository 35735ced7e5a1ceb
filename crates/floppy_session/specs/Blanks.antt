-- The requests for a blank medium, by its rate.
use Rattle.std.specs.Prelude.{ℕ, List}
use Rattle.flop_base.specs.declared.answers.Rate.{Rate}
use Rattle.flop_base.specs.declared.answers.Rate.TheVariants.{R500, R250}
use Rattle.floppy_jobs.specs.declared.request.Request.{Request}
use Rattle.floppy_jobs.specs.declared.request.Request.TheVariants as request

abbrev pub blank_request : ℕ → List ℕ → ℕ → Rate → Request
blank_request bay name cylinders R500 = request.Blank bay name cylinders
blank_request bay name cylinders R250 = request.BlankDd bay name cylinders
