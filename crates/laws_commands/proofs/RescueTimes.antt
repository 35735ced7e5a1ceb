-- How long a rescue to a new disk lasts at most, and how many port accesses it makes.
use Rattle.std.proofs.Common.{arith, ◌≡◌, ℕ, ◌+◌, ◌*◌, ◌≤◌, Bool, true, false, List, [], ◌∷◌, length, refl, ap, inl, inr, subst, sym, Option, Some, None, Result, Ok}
use Rattle.laws_commands.proofs.Common.{length-map, Two, Files, file_at, sectors_at, words_at, Code, NotFound, Overrun, Seek, Status, Chrn, Disk, Request, Reply, Reason, StationState, Step, IsImageOf, Taken, World, shape_of, Script, Asks, MayStarve, formats, read_of, write_of, after_refusal, logged_keys, standard_keys, LogLine, after_answer, Rescues, AreFound, IsLogFound, by_absent, by_rest, RequestCosts, ready_cost, further_rescue_cost, rescue_cost}
use Rattle.flop_base.specs.declared.answers.Code.TheVariants.{NoMark, BadCrc}
use Rattle.commands.specs.Parts.{asks, carries, may_starve, needs}
use Rattle.rescue.specs.declared.course.AfterRead.{AfterRead}
use Rattle.disk_commands.specs.Rescue.{acknowledges_both, does_next, follows, rescues, prepares, prepares_new, prepares_old, rescues_all, stores_log, rescue_found}
use Rattle.laws_commands.proofs.CommandTimes.{formatted, inserted, made_blank, made_ready, made_turned, on_tracks, opened_cost, opened_told, taken_out}
use Rattle.laws_commands.proofs.RequestTimes.{AreCharged, IsOnTracks, IsReady, track_ready}
use Rattle.laws_commands.proofs.Turns.{HasTurns, step_turns}
use Rattle.laws_commands.proofs.CommandEnds.{IsSum, Costs, CostsTold, PartCosts, asks_cost, carries_cost, ends_cost, fails_cost, idle_cost, more_cost, starve_cost, stores_cost, through_cost, tracks_cost, unless_run}
use Rattle.laws_commands.proofs.RescueTargets.{one_log, small_sectors}
use Rattle.laws_commands.proofs.CopyRun.{count_standard}
use Rattle.flop_base.specs.declared.answers.Status.TheVariants as status
use Rattle.floppy_jobs.specs.declared.request.Request.TheVariants as request
use Rattle.sector_model.specs.declared.reply.Reply.TheVariants as reply
use Rattle.sector_model.specs.declared.reply.Reason.TheVariants as reason
use Rattle.rescue.specs.declared.course.AfterRead.TheVariants as next

-- what comes after a read asks for nothing but a write of the record
abbrev WritesAlone : Chrn → Result AfterRead Reason → Type 0
WritesAlone key (Ok (next.Write asked)) = (deleted : Bool) × (asked ≡ write_of key deleted)
WritesAlone key _ = Unit {0}

refusal_writes : (key : Chrn) (code : Code) → WritesAlone key (Ok (after_refusal key code))
refusal_writes key NoMark = tt
refusal_writes key NotFound = tt
refusal_writes key Overrun = tt
refusal_writes key BadCrc = tt
refusal_writes key Seek = tt
refusal_writes key _ = tt

answer_writes : (key : Chrn) (answer : Reply) → WritesAlone key (after_answer key answer)
answer_writes key reply.DoneDeleted = (true, refl)
answer_writes key (reply.Refused (reason.Driver code)) = refusal_writes key code
answer_writes key (reply.Refused _) = tt
answer_writes key _ = (false, refl)

write_on : (key : Chrn) (deleted : Bool) → IsOnTracks (write_of key deleted)
write_on key false = tt
write_on key true = tt

module _ (one : Request → StationState → ℕ) (sum : StationState → List Taken → ℕ) (is : IsSum one sum) (limit : Two ℕ) (disk : Disk)
    (costs : ℕ → RequestCosts) (charged : AreCharged one limit disk.rate costs) where
  abbrev Ready : StationState → Type 0
  Ready station = IsReady limit 1 disk.rate station

  written : (key : Chrn) (deleted : Bool) (s : StationState) → Ready s → one (write_of key deleted) s ≤ (costs 1).write
  written key false s ready = charged.write 1 key 0x10000 s ready.turns
  written key true s ready = charged.write_deleted 1 key 0x10000 s ready.turns

  next_cost : (key : Chrn) (after : Result AfterRead Reason) (log : List LogLine) → WritesAlone key after
      → PartCosts sum Ready Ready (costs 1).write (does_next key after log)
  unfolding does_next may_starve
  next_cost key (Ok (next.Write asked)) log writes n rest later =
      subst (λ (q : Request). Costs sum Ready ((costs 1).write + n) (carries q (λ none. rest log))) (sym writes.1)
      (carries_cost one sum is Ready Ready (costs 1).write (write_of key writes.0) (written key writes.0)
      (on_tracks one sum is limit disk.rate costs charged 1 (write_of key writes.0) (write_on key writes.0)) n (λ none. rest log) (λ none. later log))
  next_cost key (Ok (next.Log line)) log writes n rest later = grind (arith, starve_cost, more_cost)
  next_cost key _ log writes n rest later = ends_cost one sum is Ready ((costs 1).write + n) _ _

  record_cost : (key : Chrn) (log : List LogLine) → PartCosts sum Ready Ready ((costs 0).read + (costs 1).write) (rescues key log)
  unfolding rescues follows asks
  record_cost key log n rest later =
      more_cost one sum is Ready Ready ((costs 0).read + ((costs 1).write + n)) ((costs 0).read + (costs 1).write + n)
      (Asks (read_of key) (λ answer after. does_next key (after_answer key answer) log rest)) (omega arith) (λ s ready. ready)
      (asks_cost one sum is Ready (λ answer. Ready) (costs 0).read ((costs 1).write + n) (read_of key) _
      (λ s ready. charged.read 0 key 0x10000 s ready.turns)
      (λ old new told after answer ready step. track_ready limit 1 disk.rate (read_of key) tt old new told after answer ready step)
      (λ answer after. next_cost key (after_answer key answer) log (answer_writes key answer) n rest later))

  starve_told : (most : ℕ) (files : Files) (rest : Script) → CostsTold sum files (HasTurns limit 3) most rest
      → CostsTold sum files (HasTurns limit 3) most (MayStarve rest)
  starve_told most files rest costs old new course ended told has (inl runs) = costs old new course ended told has runs
  starve_told most files rest costs old new course ended told has (inr none) = idle_cost one sum is old.state.station course most none.0

  log_cost : (log : List ℕ) (asked : ℕ) (lines : List LogLine) → Costs sum (λ s. Unit {0}) 0 (stores_log log asked lines)
  unfolding stores_log may_starve
  log_cost log asked lines = search (starve_cost, stores_cost)

  -- a rescue for which there is no log
  new_cost : (to log : List ℕ) → words_at disk.rate ≤ limit.second
      → Costs sum (HasTurns limit 3) (rescue_cost (costs 0) (costs 1) disk) (rescue_found to log (shape_of disk) None)
  unfolding rescue_found rescues_all prepares prepares_new acknowledges_both may_starve
  new_cost to log long =
      let keys = standard_keys disk.rate disk.cylinders disk.heads in
      let count = disk.cylinders * disk.heads * sectors_at disk.rate in
      let one_ready = ready_cost (costs 0) disk.rate in
      let two_ready = ready_cost (costs 1) disk.rate in
      let tracks = disk.cylinders * (disk.heads * (costs 1).format) in
      let records = count * ((costs 0).read + (costs 1).write) in
      let most = rescue_cost (costs 0) (costs 1) disk in
      starve_cost one sum is (HasTurns limit 3) most _
      (more_cost one sum is (HasTurns limit 3) (HasTurns limit 3) (0 + (one_ready + (two_ready + (tracks + (records + (0 + 0)))))) most _ (omega arith) (λ s has. has)
      (made_blank one sum is limit disk.rate costs charged 1 to disk.cylinders long (one_ready + (two_ready + (tracks + (records + (0 + 0))))) _ (λ none.
      made_turned one sum is limit disk.rate costs charged 0 (two_ready + (tracks + (records + (0 + 0)))) _ (λ none.
      made_ready one sum is limit disk.rate costs charged 1 (tracks + (records + (0 + 0))) _ (λ none.
      tracks_cost one sum is Ready (costs 1).format (formats 1) (formatted one sum is limit disk.rate costs charged 1) disk.cylinders disk.heads tt
      (records + (0 + 0)) _ (λ none.
      through_cost one sum is Ready ((costs 0).read + (costs 1).write) rescues record_cost keys count (count_standard disk) [] (0 + 0) _ (λ lines.
      taken_out one sum is limit disk.rate costs charged Ready 1 0 _ (λ none.
      log_cost log (length keys) lines))))))))

  -- ---- A rescue that goes on by a log.

  inserted_told : (name : List ℕ) (files : Files) (target : Disk) (n : ℕ) (rest : Script) → IsImageOf (Some files) name target
      → target.words_per_track ≤ limit.second → Costs sum (HasTurns limit 3) n rest
      → CostsTold sum files (HasTurns limit 3) n (carries (request.Insert 1 name) (λ none. rest))
  unfolding carries needs
  inserted_told name files target n rest image short later old new [] ended told has runs = idle_cost one sum is old.state.station [] n refl
  inserted_told name files target n rest image short later old new (taken ∷ more) ended told has runs =
      let asked : Request = request.Insert 1 name in
      let step = subst (λ (f : Option Files). Step asked old.state f taken.answer taken.after runs.1) told runs.2 in
      let first = is.more old.state.station taken more in
      let same = ap (λ (q : Request). one q old.state.station) runs.0 in
      let free = charged.insert 1 name old.state.station in
      let mid : World = record old { state = taken.after; files = runs.1 } in
      let left = unless_run one sum is n asked taken.answer rest mid new more ended (λ fine run.
      (let turn = (inserted 1 name files target old.state taken.after runs.1 taken.answer image step fine).turn in
      later mid new more ended (step_turns limit 3 old.state taken.after (Some files) runs.1 asked taken.answer (omega (arith, turn, short)) step has) run)) runs.3 in
      omega (arith, first, same, free, left)

  again_cost : (to log : List ℕ) (files : Files) (target : Disk) (lines : List LogLine) → IsImageOf (Some files) to target
      → target.words_per_track ≤ limit.second
      → CostsTold sum files (HasTurns limit 3) (further_rescue_cost (costs 0) (costs 1) disk.rate (length lines)) (rescue_found to log (shape_of disk) (Some lines))
  unfolding rescue_found rescues_all prepares prepares_old acknowledges_both may_starve
  again_cost to log files target lines image short =
      let keys = logged_keys lines in
      let count = length lines in
      let one_ready = ready_cost (costs 0) disk.rate in
      let two_ready = ready_cost (costs 1) disk.rate in
      let records = count * ((costs 0).read + (costs 1).write) in
      let most = one_ready + (two_ready + records) in
      starve_told most files _ (inserted_told to files target most _ image short
      (more_cost one sum is (HasTurns limit 3) (HasTurns limit 3) (one_ready + (two_ready + (records + (0 + 0)))) most _ (omega arith) (λ s has. has)
      (made_turned one sum is limit disk.rate costs charged 0 (two_ready + (records + (0 + 0))) _ (λ none.
      made_ready one sum is limit disk.rate costs charged 1 (records + (0 + 0)) _ (λ none.
      through_cost one sum is Ready ((costs 0).read + (costs 1).write) rescues record_cost keys count (length-map lines (λ (line : LogLine). line.key)) [] (0 + 0) _
      (λ found.
      taken_out one sum is limit disk.rate costs charged Ready 1 0 _ (λ none.
      log_cost log (length keys) found)))))))

  pub further_most : (from to log : List ℕ) (files : Files) (target : Disk) (lines : List LogLine) → disk.words_per_track ≤ limit.first
      → target.words_per_track ≤ limit.second → IsImageOf (Some files) from disk → IsImageOf (Some files) to target
      → IsLogFound (Some files) log (sectors_at disk.rate) (Some lines) → (old new : World) (course : List Taken) (ended : Status) → old.files ≡ Some files
      → HasTurns limit 3 old.state.station → Rescues from to log old course new ended
      → sum old.state.station course ≤ further_rescue_cost (costs 0) (costs 1) disk.rate (length lines)
  further_most from to log files target lines short long image other found old new course ended told has runs =
      let most = further_rescue_cost (costs 0) (costs 1) disk.rate (length lines) in
      let there = subst (λ (f : Option Files). AreFound f log runs.0) told runs.1 in
      opened_told one sum is limit disk.rate costs charged from files disk most _ image short
      (by_rest (Some files) to log (shape_of disk) (λ script. CostsTold sum files (HasTurns limit 3) most script)
      (λ asked is_found.
      subst (λ (f : Option (List LogLine)). CostsTold sum files (HasTurns limit 3) most (rescue_found to log (shape_of disk) f))
      (sym (one_log files log (sectors_at disk.rate) lines asked (small_sectors disk.rate) found is_found)) (again_cost to log files target lines other long))
      (λ line a b steps end same turns run. ends_cost one sum is (HasTurns limit 3) most line status.BadJob a b steps end turns run)
      (λ a b steps end same turns run. fails_cost one sum is (HasTurns limit 3) most status.FileFault a b steps end turns run)
      (λ a b steps end same turns run. fails_cost one sum is (HasTurns limit 3) most status.NoMemory a b steps end turns run)
      (runs.0 disk.rate) (there disk.rate)) old new course ended told has runs.2

  -- ---- A new rescue.

  pub rescue_most : (from to log : List ℕ) (files : Files) → disk.words_per_track ≤ limit.first → words_at disk.rate ≤ limit.second
      → IsImageOf (Some files) from disk → file_at files log ≡ None → (old new : World) (course : List Taken) (ended : Status) → old.files ≡ Some files
      → HasTurns limit 3 old.state.station → Rescues from to log old course new ended
      → sum old.state.station course ≤ rescue_cost (costs 0) (costs 1) disk
  rescue_most from to log files short long image absent old new course ended told has runs =
      let most = rescue_cost (costs 0) (costs 1) disk in
      let there = subst (λ (f : Option Files). AreFound f log runs.0) told runs.1 in
      opened_cost one sum is limit disk.rate costs charged from files disk most _ image short
      (by_absent files to log (shape_of disk) (λ script. Costs sum (HasTurns limit 3) most script) absent (new_cost to log long)
      (fails_cost one sum is (HasTurns limit 3) most status.FileFault) (fails_cost one sum is (HasTurns limit 3) most status.NoMemory)
      (runs.0 disk.rate) (there disk.rate)) old new course ended told has runs.2
