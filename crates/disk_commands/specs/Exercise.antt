-- What an exercise requests and prints. It runs the generated workload on a disk that is made for it.
use Rattle.std.specs.Prelude.{◌≤◌, ◌<◌, ℕ, ◌+◌, ◌*◌, ◌%◌, ◌==◌, Bool, true, false, nat_lt, sum, List, [], ◌∷◌, ◌++◌, codes, if◌then◌else◌}
use Rattle.disk_commands.specs.Common.{decimal, Chrn, bytes_from, Request, Reply, is_refusal, whole_status, blank_request, Script, Ends, Part, asks, carries, may_starve, acknowledges, each, by_track, formats}
use Rattle.flop_base.specs.declared.answers.Rate.TheVariants.{R500}
use Rattle.floppy_jobs.specs.declared.request.Request.TheVariants as request
use Rattle.disk_commands.specs.declared.work_tally.WorkTally.{WorkTally}
use Rattle.disk_commands.specs.Workload.{number_after, drawn, drawn_key}

-- The last line of an exercise has the number of reads and writes that were done, the number of those that were
-- refused, and the sum of all bytes read.
unfoldable pub exercise_text : ℕ → ℕ → ℕ → ℕ → ℕ → List ℕ
exercise_text seed count done refused total =
    codes "exercise " ++ (decimal seed ++ (codes " " ++ (decimal count ++ (codes " ok " ++ (decimal done
    ++ (codes " refused " ++ (decimal refused ++ (codes " sum " ++ (decimal total ++ codes "\n")))))))))

-- the tally of no reads and writes
abbrev pub no_work : WorkTally
no_work = record { done = 0; refused = 0; sum = 0 }

-- the tally after one more that was done and read bytes of this sum
abbrev pub one_done : ℕ → WorkTally → WorkTally
one_done total tally = record { done = tally.done + 1; refused = tally.refused; sum = tally.sum + total }

-- the tally after one more that was refused
abbrev pub one_refused : WorkTally → WorkTally
one_refused tally = record { done = tally.done; refused = tally.refused + 1; sum = tally.sum }

-- the tally after one more with this answer, which read bytes of this sum if it isn't a refusal
abbrev pub counted : Reply → ℕ → WorkTally → WorkTally
counted answer total tally = if is_refusal answer then one_refused tally else one_done total tally

-- a record is read to memory at 10000, and its bytes are summed up
unfoldable pub reads_work : Chrn → WorkTally → Part WorkTally
reads_work key tally rest =
    asks (request.Read 0 key 0x10000)
    (λ answer after. rest (counted answer (sum (bytes_from after.station.memory 0x10000 512)) tally))

-- a write from memory at 20000, of a record with this mark
abbrev pub write_request : Bool → Chrn → Request
write_request true key = request.WriteDeleted 0 key 0x20000
write_request false key = request.Write 0 key 0x20000

-- memory at 20000 is filled with a byte, and a record is written from there, marked as deleted or not
unfoldable pub writes_work : Bool → Chrn → ℕ → WorkTally → Part WorkTally
writes_work deleted key byte tally rest =
    asks (request.Fill 0x20000 512 byte)
    (λ filled between. asks (write_request deleted key) (λ answer after. rest (counted answer 0 tally)))

-- The draw decides what is done. 0 is a write, 3 is a write that marks its field as deleted, and all others are reads.
unfoldable pub works_drawn : ℕ → Chrn → ℕ → WorkTally → Part WorkTally
works_drawn kind key byte tally =
    if kind == 0 then writes_work false key byte tally
    else (if kind == 3 then writes_work true key byte tally else reads_work key tally)

-- what the five draws after a number request; they are kind, cylinder, head, record and byte
unfoldable pub works_behind : ℕ → WorkTally → Part WorkTally
works_behind x =
    works_drawn (drawn (number_after 1 x) % 4)
    (drawn_key (drawn (number_after 2 x)) (drawn (number_after 3 x)) (drawn (number_after 4 x)))
    (drawn (number_after 5 x) % 256)

-- as many times as `count` says, what five draws request; the first draw is the one after the seed
unfoldable pub works : ℕ → ℕ → WorkTally → Part WorkTally
works seed count tally = each 0 count (λ i. works_behind (number_after (5 * i) seed)) tally

-- a disk of four cylinders is made and formatted, and the workload is run on it
abbrev pub exercises : ℕ → ℕ → Part WorkTally
exercises seed count rest =
    carries (blank_request 0 (codes "exercise") 4 R500) (λ none. acknowledges 0 R500
    (λ none. by_track 4 2 (formats 0) tt (λ none. works seed count no_work rest)))

-- the end of an exercise: its last line, and the status
abbrev pub exercise_end : ℕ → ℕ → WorkTally → Script
exercise_end seed count tally =
    Ends (exercise_text seed count tally.done tally.refused tally.sum ∷ []) (whole_status (nat_lt 0 tally.refused))

-- an exercise takes memory for the name of its disk, which isn't stored
abbrev pub exercise_script : ℕ → ℕ → Script
exercise_script seed count = may_starve (λ none. exercises seed count (exercise_end seed count))

-- ---- The bounds of a tally.

-- the tally has room for one more read or write
pub record HasRoom (tally : WorkTally) : Type 0 where
  pub few : tally.done + tally.refused < 65535
  pub small : tally.sum ≤ 130560 * 65535

-- the new tally has at most one more read or write, of 512 bytes
pub record IsOneMore (old new : WorkTally) : Type 0 where
  pub few : new.done + new.refused ≤ old.done + old.refused + 1
  pub small : new.sum ≤ old.sum + 130560
