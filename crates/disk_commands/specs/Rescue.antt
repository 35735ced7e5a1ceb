-- What a rescue requests, prints and stores, by the log that is found for each rate.
use Rattle.std.specs.Prelude.{ℕ, ◌-◌, Bool, true, false, List, [], ◌∷◌, ◌++◌, length, is_some, Option, Some, None, Result, Ok, Err, codes}
use Rattle.disk_commands.specs.Common.{decimal, Chrn, Rate, Status, Reply, Reason, Taken, World, blank_request, Shape, Script, Ends, Fails, Stores, RunsScript, Part, asks, carries, may_starve, opens, acknowledges, through, by_track, formats, log_text, LogLine, AfterRead}
use Rattle.flop_base.specs.declared.answers.Status.TheVariants as status
use Rattle.floppy_jobs.specs.declared.request.Request.TheVariants as request
use Rattle.sector_model.specs.declared.reply.Reply.TheVariants as reply
use Rattle.sector_model.specs.declared.reply.Reason.TheVariants as reason
use Rattle.commands.specs.LastLines.{stopped_text}
use Rattle.rescue.specs.Course.{read_of, after_read, standard_keys, logged_keys, outcome_text, outcome_status}
use Rattle.rescue.specs.declared.course.AfterRead.TheVariants as next
use Rattle.rescue.specs.declared.outcome.Outcome.{Outcome}
use Rattle.disk_commands.specs.declared.logs.NoLog.{NoLog}
use Rattle.disk_commands.specs.declared.logs.NoLog.TheVariants as missing
use Rattle.disk_commands.specs.Logs.{AreFound}

-- ---- A record.

-- What comes next by the answer to a read. It is an error if the answer is a refusal that no drive gives.
abbrev pub after_answer : Chrn → Reply → Result AfterRead Reason
after_answer key reply.Done = Ok (after_read key (Ok false))
after_answer key reply.DoneDeleted = Ok (after_read key (Ok true))
after_answer key (reply.Bytes address content) = Ok (after_read key (Ok false))
after_answer key (reply.Refused (reason.Driver code)) = Ok (after_read key (Err code))
after_answer key (reply.Refused other) = Err other

-- the read of a record was refused in such a way that the rescue ends there
abbrev pub gives_up : Chrn → Reason → Script
gives_up key cause = Ends (stopped_text (read_of key) cause ∷ []) status.SomeRefused

-- What comes next is done. The record is written, or its line is added to the new log, or the rescue ends there.
unfoldable pub does_next : Chrn → Result AfterRead Reason → List LogLine → Part (List LogLine)
does_next key (Ok (next.Write asked)) log rest = carries asked (λ none. rest log)
does_next key (Ok (next.Log line)) log rest = may_starve (λ none. rest (log ++ line ∷ []))
does_next key (Ok (next.Stop code)) log rest = gives_up key (reason.Driver code)
does_next key (Err cause) log rest = gives_up key cause

-- what follows the answer to the read of a record, given the new log so far
unfoldable pub follows : Chrn → Reply → List LogLine → Part (List LogLine)
follows key answer log rest = does_next key (after_answer key answer) log rest

-- a record is read, and then written or logged
unfoldable pub rescues : Chrn → List LogLine → Part (List LogLine)
rescues key log rest = asks (read_of key) (λ answer after. follows key answer log rest)

-- ---- The other diskette.

-- both bays are made ready
unfoldable pub acknowledges_both : Rate → Part (Unit {0})
acknowledges_both rate rest = acknowledges 0 rate (λ none. acknowledges 1 rate rest)

-- the other diskette is put in, as an earlier run left it
unfoldable pub prepares_old : List ℕ → Shape → Part (Unit {0})
prepares_old to shape rest = carries (request.Insert 1 to) (λ none. acknowledges_both shape.rate rest)

-- the other diskette is new, and is formatted as the first one
unfoldable pub prepares_new : List ℕ → Shape → Part (Unit {0})
prepares_new to shape rest =
    carries (blank_request 1 to shape.cylinders shape.rate)
    (λ none. acknowledges_both shape.rate (λ still. by_track shape.cylinders shape.heads (formats 1) tt rest))

-- the other diskette is made ready: that of an earlier run if there is a log, and otherwise a new one
unfoldable pub prepares : List ℕ → Shape → Bool → Part (Unit {0})
prepares to shape true rest = prepares_old to shape rest
prepares to shape false rest = prepares_new to shape rest

-- ---- The whole.

-- the records that are asked for: those of the log, or all records if there is no log
abbrev pub asked_keys : Shape → Option (List LogLine) → List Chrn
asked_keys shape None = standard_keys shape.rate shape.cylinders shape.heads
asked_keys shape (Some lines) = logged_keys lines

-- the outcome if this many records were asked for and these lines are left
abbrev pub outcome_of : ℕ → List LogLine → Outcome
outcome_of asked lines = record { written = asked - length lines; asked = asked }

-- the last line of a rescue
abbrev pub last_text : Outcome → List ℕ
last_text outcome = outcome_text outcome ++ codes "\n"

-- The other diskette is made ready, each record is rescued to it, and it is stored. The lines of the new log are found.
unfoldable pub rescues_all : List ℕ → Shape → Bool → List Chrn → Part (List LogLine)
rescues_all to shape logged keys rest =
    prepares to shape logged (λ none. through rescues keys [] (λ lines. carries (request.Eject 1) (λ still. rest lines)))

-- the new log is stored, and the last line tells how many of the records were written
unfoldable pub stores_log : List ℕ → ℕ → List LogLine → Script
stores_log log asked lines =
    may_starve (λ none. Stores log (log_text lines) (last_text (outcome_of asked lines)) (outcome_status (outcome_of asked lines)))

-- the records that the found log asks for are rescued
unfoldable pub rescue_found : List ℕ → List ℕ → Shape → Option (List LogLine) → Script
rescue_found to log shape found =
    may_starve (λ none. rescues_all to shape (is_some found) (asked_keys shape found)
    (stores_log log (length (asked_keys shape found))))

-- the line that is printed if a log isn't understood
unfoldable pub bad_log_text : ℕ → List ℕ
bad_log_text line = codes "log line " ++ (decimal line ++ codes " not understood\n")

-- what is told if there is no log to go by
unfoldable pub tells_no_log : NoLog → Script
tells_no_log (missing.BadLine line) = Ends (bad_log_text line ∷ []) status.BadJob
tells_no_log missing.FileFault = Fails status.FileFault
tells_no_log missing.NoMemory = Fails status.NoMemory

-- what comes after the disk was put in, by what was found under the name of its log
abbrev pub rescue_rest : List ℕ → List ℕ → Shape → Result (Option (List LogLine)) NoLog → Script
rescue_rest to log shape (Ok found) = rescue_found to log shape found
rescue_rest to log shape (Err cause) = tells_no_log cause

-- the disk of the first name is rescued to that of the second name, by the log of the third name
abbrev pub rescue_script : List ℕ → List ℕ → List ℕ → (Rate → Result (Option (List LogLine)) NoLog) → Script
rescue_script from to log found = opens from (λ shape. rescue_rest to log shape (found shape.rate))

-- the rescue is run, by what is found under the name of its log
abbrev pub Rescues : List ℕ → List ℕ → List ℕ → World → List Taken → World → Status → Type 0
Rescues from to log old course new ended =
    (found : Rate → Result (Option (List LogLine)) NoLog) × AreFound old.files log found
    × RunsScript (rescue_script from to log found) old course new ended
