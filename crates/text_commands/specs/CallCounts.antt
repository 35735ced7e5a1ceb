-- What the requests of a call count.
use Rattle.std.specs.Prelude.{ℕ, ◌+◌, ◌*◌, ◌≤◌, List, sum_by}
use Rattle.text_commands.specs.Common.{Request, Taken, requests_of}
use Rattle.floppy_jobs.specs.declared.request.Request.TheVariants as request
use Rattle.sector_model.specs.Stations.{StationState}

-- the most data commands of a request that a call runs, with so many attempts
abbrev pub commands_of : ℕ → Request → ℕ
commands_of tries (request.Read bay key address) = tries
commands_of tries (request.Write bay key address) = 2 * tries
commands_of tries (request.Ack bay) = 6
commands_of tries _ = 0

-- the bytes that a request puts into memory
abbrev pub bytes_put : Request → ℕ
bytes_put (request.Fill address count byte) = count
bytes_put _ = 0

-- a course counts no more than its requests allow
pub record CountsCourse (old : StationState) (course : List Taken) (new : StationState) : Type 0 where
  pub commands : new.counters.data_commands ≤ old.counters.data_commands + sum_by (commands_of old.tries) (requests_of course)
  pub accesses : new.counters.direct ≤ old.counters.direct + sum_by bytes_put (requests_of course)
