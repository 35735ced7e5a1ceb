-- How long requests, and the runs of jobs, last at most, and how many port accesses they make.
use Rattle.std.specs.Prelude.{ℕ, ◌+◌, ◌*◌, ◌≤◌, List, [], ◌∷◌, sum_by}
use Rattle.sector_model.specs.Common.{Request}
use Rattle.floppy_jobs.specs.declared.request.Request.TheVariants as request
use Rattle.sector_model.specs.Lasting.{ack_port_accesses, ack_time, dump_port_accesses, format_port_accesses, format_time, read_port_accesses, read_time, turn_of, write_port_accesses, write_time}
use Rattle.sector_model.specs.Stations.{StationState, bay_of}
use Rattle.sector_model.specs.Runs.{Taken}

-- ---- By the media that the requests find.

-- the most device steps that a request takes of a station
abbrev pub time_of : Request → StationState → ℕ
time_of (request.Ack bay) station = ack_time station bay
time_of (request.Read bay key address) station = read_time station bay
time_of (request.Write bay key address) station = write_time station bay
time_of (request.WriteDeleted bay key address) station = write_time station bay
time_of (request.Format bay c h) station = format_time station bay (bay_of station bay).rate
time_of (request.Insert bay name) station = 0
time_of (request.Blank bay name cylinders) station = 0
time_of (request.BlankDd bay name cylinders) station = 0
time_of (request.Eject bay) station = 0
time_of (request.Fill address count byte) station = 0
time_of (request.Dump address count) station = 0
time_of (request.Unit bay) station = 0
time_of (request.SetRate bay rate) station = 0
time_of (request.Tries tries) station = 0

-- the most device steps that a course takes
abbrev pub course_time : StationState → List Taken → ℕ
course_time station [] = 0
course_time station (taken ∷ later) = time_of taken.asked station + course_time taken.after.station later

-- the most port accesses that a request makes, and one more for each interrupt that it takes
abbrev pub port_accesses_of : Request → StationState → ℕ
port_accesses_of (request.Ack bay) station = ack_port_accesses
port_accesses_of (request.Read bay key address) station = read_port_accesses station
port_accesses_of (request.Write bay key address) station = write_port_accesses station
port_accesses_of (request.WriteDeleted bay key address) station = write_port_accesses station
port_accesses_of (request.Format bay c h) station = format_port_accesses station (bay_of station bay).rate
port_accesses_of (request.Insert bay name) station = 0
port_accesses_of (request.Blank bay name cylinders) station = 0
port_accesses_of (request.BlankDd bay name cylinders) station = 0
port_accesses_of (request.Eject bay) station = 0
port_accesses_of (request.Fill address count byte) station = 0
port_accesses_of (request.Dump address count) station = dump_port_accesses count
port_accesses_of (request.Unit bay) station = 0
port_accesses_of (request.SetRate bay rate) station = 6
port_accesses_of (request.Tries tries) station = 0

-- the most port accesses that a course makes
abbrev pub course_port_accesses : StationState → List Taken → ℕ
course_port_accesses station [] = 0
course_port_accesses station (taken ∷ later) = port_accesses_of taken.asked station + course_port_accesses taken.after.station later

-- ---- By the requests alone, if no medium has a longer revolution, and no request has more attempts.

-- a format reads back 18 records at most
abbrev pub most_time : ℕ → ℕ → Request → ℕ
most_time turn tries (request.Ack bay) = 12 * turn + 9031
most_time turn tries (request.Read bay key address) = tries * (2 * turn + 504)
most_time turn tries (request.Write bay key address) = tries * (4 * turn + 765)
most_time turn tries (request.WriteDeleted bay key address) = tries * (4 * turn + 765)
most_time turn tries (request.Format bay c h) = tries * (38 * turn + 5202)
most_time turn tries (request.Insert bay name) = 0
most_time turn tries (request.Blank bay name cylinders) = 0
most_time turn tries (request.BlankDd bay name cylinders) = 0
most_time turn tries (request.Eject bay) = 0
most_time turn tries (request.Fill address count byte) = 0
most_time turn tries (request.Dump address count) = 0
most_time turn tries (request.Unit bay) = 0
most_time turn tries (request.SetRate bay rate) = 0
most_time turn tries (request.Tries tries_set) = 0

abbrev pub most_port_accesses : ℕ → Request → ℕ
most_port_accesses tries (request.Ack bay) = 172
most_port_accesses tries (request.Read bay key address) = 6 + tries * 48
most_port_accesses tries (request.Write bay key address) = 6 + tries * 77
most_port_accesses tries (request.WriteDeleted bay key address) = 6 + tries * 77
most_port_accesses tries (request.Format bay c h) = 6 + tries * 567
most_port_accesses tries (request.Insert bay name) = 0
most_port_accesses tries (request.Blank bay name cylinders) = 0
most_port_accesses tries (request.BlankDd bay name cylinders) = 0
most_port_accesses tries (request.Eject bay) = 0
most_port_accesses tries (request.Fill address count byte) = 0
most_port_accesses tries (request.Dump address count) = dump_port_accesses count
most_port_accesses tries (request.Unit bay) = 0
most_port_accesses tries (request.SetRate bay rate) = 6
most_port_accesses tries (request.Tries tries_set) = 0

pub record IsWithin (turn tries : ℕ) (station : StationState) : Type 0 where
  pub first : turn_of station.bays.first.medium ≤ turn
  pub second : turn_of station.bays.second.medium ≤ turn
  pub attempts : station.tries ≤ tries

-- each station that a course finds is within these bounds
abbrev pub AreWithin : ℕ → ℕ → StationState → List Taken → Type 0
AreWithin turn tries station [] = Unit {0}
AreWithin turn tries station (taken ∷ later) = IsWithin turn tries station × AreWithin turn tries taken.after.station later

-- the most device steps that a job takes
abbrev pub job_time : ℕ → ℕ → List Request → ℕ
job_time turn tries requests = sum_by (most_time turn tries) requests

-- the most port accesses that a job makes
abbrev pub job_port_accesses : ℕ → List Request → ℕ
job_port_accesses tries requests = sum_by (most_port_accesses tries) requests
