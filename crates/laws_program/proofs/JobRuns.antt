-- How long a whole job lasts at most, and how many port accesses it makes, by its requests alone.
use Rattle.std.proofs.Common.{arith, ◌≡◌, ◌∙◌, ℕ, ◌+◌, ◌≤◌, All, List, [], ◌∷◌, ◌++◌, length, refl, ap, sym, subst, append-nil, append_assoc, Option, Some, Result, Ok, true, false, true≢false, None}
use Rattle.std.specs.Prelude.{sum_by, ◌-◌}
use Rattle.laws_program.proofs.Common.{All-weaker, All-take, take-append_seam, used_within, Two, DriveCounts, Files, file_at, Status, Request, Board, turn_of, StationState, Bay, IsFresh, Taken, Run, requests_of, World, Plays, There, Missing, TooLong, Faulty, Starved, PlaysParsed, PlaysRequests, Played, Stopped, BrokenOff, EndStopped, IsText, IsJob, IsWithin, course_port_accesses, job_port_accesses, job_time, most_port_accesses, most_time, course_accesses_within, course_within, requests_more, world, Outside, DoesOrStarves, RunsOver, SetsAtMost, told_short, CostsRun, both, in_bay, with_bay, Store, Disk, Reply, bay_of, set_bay, fresh_bay, Becomes, Stays, State, ChangesMedium, Step, refusal_of, IsSetUp, StoresFirst, medium_store, bay_store, stores_of, stores_by, end_stores, state_after, all_stored, step_stores, is_same_bay}
use Rattle.std.proofs.lemmas.List.Sums.{sum_by-append}
use Rattle.floppy_jobs.specs.Requests.{request_of}
use Rattle.floppy_jobs.specs.Texts.{job_of}
use Rattle.floppy_jobs.specs.Valid.{IsRequest}
use Rattle.floppy_jobs.proofs.ValidLemmas.{request-valid, text-valid}
use Rattle.laws_program.proofs.Courses.{form_runs, as_play, text_there}
use Rattle.laws_program.proofs.FormTimes.{machine_lasts, machine_uses}
use Rattle.laws_program.specs.StoredAgain.{only_reads, AllRead, AreStoredAgain, StoresAgainAtEnd}
use Rattle.laws_program.proofs.Stepping.{either, becomes_medium, Alters, Leaves, Turns, Overwrites, calm_step}
use Rattle.laws_program.proofs.AlikeDisks.{sorted, each_bay, other_bay, in_same, kept_medium}
use Rattle.laws_program.proofs.RescueStatus.{each_form_stores}
use Rattle.floppy_jobs.specs.declared.request.Request.TheVariants as request
use Rattle.floppy_words.specs.declared.form.Form.TheVariants as form

-- ---- The requests that a job asks for.

-- the course asked the first of these requests
abbrev pub AsksFirst : List Request → List Taken → Type 0
AsksFirst requests course = (later : List Request) × (requests ≡ requests_of course ++ later)

first_none : (requests : List Request) (course : List Taken) → course ≡ [] → AsksFirst requests course
first_none requests course nothing = subst (λ (c : List Taken). AsksFirst requests c) (sym nothing) (requests, refl)

first_all : (requests : List Request) (course : List Taken) → requests ≡ requests_of course → AsksFirst requests course
first_all requests course all = ([], all ∙ sym (append-nil (requests_of course)))

first_requests : (requests : List Request) (old new : World) (course : List Taken) (ended : Status) → PlaysRequests requests old course new ended
    → AsksFirst requests course
first_requests requests old new course ended (Played is) = first_all requests course is.all
first_requests requests old new course ended (Stopped is) = (is.asked ∷ is.later, is.all)
first_requests requests old new course ended (BrokenOff is) =
    subst (λ (c : List Taken). AsksFirst requests c) (sym is.course_is) (
      is.later,
      is.all ∙ sym (append_assoc (requests_of is.before) (is.last.asked ∷ []) is.later)
          ∙ ap (λ (row : List Request). row ++ is.later) (sym (requests_more is.before is.last)),
    )
first_requests requests old new course ended (EndStopped is) = first_all requests course is.all

one_text : (o : Option (List ℕ)) (a b : List ℕ) → o ≡ Some a → o ≡ Some b → a ≡ b
one_text o a b one two = cc (one, two)

first_play : (job : List ℕ) (requests : List Request) (old new : World) (course : List Taken) (ended : Status) → IsJob old.files job requests
    → Plays job old course new ended → AsksFirst requests course
first_play job requests old new course ended is (There p) =
    let read = text_there is.files job p.text (subst (λ (f : Option Files). IsText f job p.text) is.tells p.told) in
    let same = one_text (file_at is.files job) p.text is.text read is.there in
    first_requests requests old new course ended
    (subst (λ (parsed : Result (List Request) ℕ). PlaysParsed parsed old course new ended) (ap job_of same ∙ is.spells) p.plays)
first_play job requests old new course ended is (Missing absent alone) = first_none requests course alone.nothing
first_play job requests old new course ended is (TooLong longer alone) = first_none requests course alone.nothing
first_play job requests old new course ended is (Faulty nothing idle) = first_none requests course nothing
first_play job requests old new course ended is (Starved nothing idle) = first_none requests course nothing

pub first_asked : (job : List ℕ) (requests : List Request) (old new : World) (course : List Taken) (ended : Status) → IsJob old.files job requests
    → DoesOrStarves (form.Play job) old course new ended → AsksFirst requests course
first_asked job requests old new course ended is does = first_play job requests old new course ended is (as_play old course new job ended does)

first_sum : (f : Request → ℕ) (requests : List Request) (course : List Taken) → AsksFirst requests course → sum_by f (requests_of course) ≤ sum_by f requests
first_sum f requests course first =
    let whole = ap (sum_by f) first.1 ∙ sum_by-append f (requests_of course) first.0 in
    omega (arith, whole)

-- ---- No request of a job sets more than ten attempts.

valid_tries : (asked : Request) → IsRequest asked → SetsAtMost 10 asked
valid_tries (request.Tries tries) valid = valid.1
valid_tries _ valid = tt

job_valid : (text : List ℕ) (requests : List Request) → job_of text ≡ Ok requests → All IsRequest requests
unfolding job_of
job_valid text requests spells = text-valid IsRequest request_of request-valid 100000 text requests spells

first_tries : (xs ys : List Request) → All IsRequest (xs ++ ys) → All (SetsAtMost 10) xs
first_tries xs ys all =
    All-weaker IsRequest (SetsAtMost 10) valid_tries xs (subst (All IsRequest) (take-append_seam xs ys) (All-take IsRequest (length xs) (xs ++ ys) all))

-- ---- A play over a machine.

fresh_within : (station : StationState) → IsFresh station → IsWithin 16384 10 station
fresh_within station fresh =
    let first = ap (λ (bays : Two Bay). turn_of bays.first.medium) fresh.bays in
    let second = ap (λ (bays : Two Bay). turn_of bays.second.medium) fresh.bays in
    let tries = fresh.tries in
    record { first = omega (arith, first); second = omega (arith, second); attempts = omega (arith, tries) }

pub job_run : (job : List ℕ) (spares : List DriveCounts) (old new : Board) (before after : Outside) (ended : Status) (requests : List Request)
    → RunsOver (Some (form.Play job)) old spares before new after ended → IsJob before.files job requests
    → CostsRun (2 + job_time 16384 10 requests) (22 + job_port_accesses 10 requests) old new
job_run job spares old new before after ended requests over is =
    let start = over.start.station in
    let course = over.runs.course in
    let first = first_asked job requests (world over.start before.files before.report) (world over.last after.files after.report) course ended is over.runs.does in
    let ran = form_runs (form.Play job) spares old new before after ended over in
    let run = subst (λ (f : Option Files). Run over.start f course ran.0 ran.1) is.tells ran.2 in
    let valid = subst (λ (row : List Request). All IsRequest row) first.1 (job_valid is.text requests is.spells) in
    let within = told_short 10 over.start ran.0 is.files ran.1 course run (first_tries (requests_of course) first.0 valid)
    (fresh_within start over.set_up.fresh) in
    let time = course_within 16384 10 start course within in
    let more_time = first_sum (most_time 16384 10) requests course first in
    let accesses = course_accesses_within 16384 10 start course within in
    let more_accesses = first_sum (most_port_accesses 10) requests course first in
    let lasts = machine_lasts (Some (form.Play job)) spares old new before after ended over in (
      omega (arith, lasts, time, more_time),
      used_within (length old.bus.gaps) (length new.bus.gaps) (22 + course_port_accesses start course) (22 + job_port_accesses 10 requests)
          old.bus.taken new.bus.taken (omega (arith, accesses, more_accesses)) (machine_uses (Some (form.Play job)) spares old new before after ended over),
    )

-- ---- A batch job that only reads stores what its files have already

-- ---- what stands in the bays

-- each medium under its name is the disk that the told file of the name has
abbrev Held : Option Files → State → Type 0
Held told state = (bay : ℕ) → AreStoredAgain told (bay_store state bay)

same_stores : (old new : State) (bay : ℕ) → in_bay new.names bay ≡ in_bay old.names bay → (bay_of new.station bay).medium ≡ (bay_of old.station bay).medium
    → bay_store new bay ≡ bay_store old bay
same_stores old new bay names media =
    ap (λ (m : Option Disk). medium_store m (in_bay new.names bay)) media
    ∙ ap (λ (n : Option (List ℕ)). medium_store (bay_of old.station bay).medium n) names

module _ (told : Option Files) (old new : State) where
  -- the names and the media stayed
  still_held : new.names ≡ old.names → ((bay : ℕ) → (bay_of new.station bay).medium ≡ (bay_of old.station bay).medium) → Held told old → Held told new
  still_held names media held bay =
      subst (AreStoredAgain told) (sym (same_stores old new bay (ap (λ (n : Two (Option (List ℕ))). in_bay n bay) names) (media bay))) (held bay)

  stays_held : new.names ≡ old.names → Stays old.station new.station → Held told old → Held told new
  stays_held names stays held =
      still_held names (λ bay. becomes_medium (record old.station { counters = new.station.counters }) new.station bay stays) held

  -- a bay has this medium and this name from now on
  put_held : (at : ℕ) (medium : Option Disk) (name : Option (List ℕ)) → ChangesMedium at name medium old new → AreStoredAgain told (medium_store medium name)
      → Held told old → Held told new
  put_held at medium name changes again held bay = sorted (is_same_bay at bay) same apart
    where
      now : (bay_of new.station bay).medium ≡ (bay_of (set_bay old.station at (fresh_bay medium)) bay).medium
      now = becomes_medium (set_bay old.station at (fresh_bay medium)) new.station bay changes.exchanged.becomes

      named : in_bay new.names bay ≡ in_bay (with_bay old.names at name) bay
      named = ap (λ (n : Two (Option (List ℕ))). in_bay n bay) changes.names

      same : is_same_bay at bay ≡ true → AreStoredAgain told (bay_store new bay)
      same e =
          let medium_is = now ∙ ap (λ (b : Bay). b.medium) (in_same old.station.bays at bay (fresh_bay medium) e) in
          let name_is = named ∙ in_same old.names at bay name e in
          subst (AreStoredAgain told)
          (sym (ap (λ (m : Option Disk). medium_store m (in_bay new.names bay)) medium_is ∙ ap (λ (n : Option (List ℕ)). medium_store medium n) name_is)) again

      apart : is_same_bay at bay ≡ false → AreStoredAgain told (bay_store new bay)
      apart e =
          subst (AreStoredAgain told)
          (sym (same_stores old new bay (named ∙ other_bay old.names at bay name e)
          (now ∙ ap (λ (b : Bay). b.medium) (other_bay old.station.bays at bay (fresh_bay medium) e)))) (held bay)

  -- a bay lost its medium
  gone_held : new.names ≡ old.names → (at : ℕ) (target : StationState) → Becomes target new.station
      → ((bay : ℕ) → (bay_of target bay).medium ≡ (bay_of (set_bay old.station at (fresh_bay None)) bay).medium) → Held told old → Held told new
  gone_held names at target becomes is held bay = sorted (is_same_bay at bay) same apart
    where
      now : (bay_of new.station bay).medium ≡ (bay_of (set_bay old.station at (fresh_bay None)) bay).medium
      now = becomes_medium target new.station bay becomes ∙ is bay

      same : is_same_bay at bay ≡ true → AreStoredAgain told (bay_store new bay)
      same e =
          let medium_is = now ∙ ap (λ (b : Bay). b.medium) (in_same old.station.bays at bay (fresh_bay None) e) in
          subst (AreStoredAgain told) (sym (ap (λ (m : Option Disk). medium_store m (in_bay new.names bay)) medium_is)) tt

      apart : is_same_bay at bay ≡ false → AreStoredAgain told (bay_store new bay)
      apart e =
          subst (AreStoredAgain told)
          (sym (same_stores old new bay (ap (λ (n : Two (Option (List ℕ))). in_bay n bay) names)
          (now ∙ ap (λ (b : Bay). b.medium) (other_bay old.station.bays at bay (fresh_bay None) e)))) (held bay)

  -- ---- a step

  altered_held : (asked : Request) → only_reads asked ≡ true → new.names ≡ old.names → Alters asked old new → Held told old → Held told new
  altered_held asked reads names (Leaves is) held = still_held names (λ bay. ap (λ (b : Two Bay). (in_bay b bay).medium) is) held
  altered_held asked reads names (Turns at x is still) held =
      still_held names (λ bay. ap (λ (b : Two Bay). (in_bay b bay).medium) is ∙ kept_medium old.station.bays at bay x still) held
  altered_held asked reads names (Overwrites at x is free writes stays) held = absurd (true≢false (sym reads ∙ writes))

  step_held : (asked : Request) (answer : Reply) (after : Option Files) → only_reads asked ≡ true → Step asked old told answer new after
      → Held told old → Held told new
  step_held (request.Insert at name) answer after reads step held =
      either (refusal_of old (request.Insert at name)) step
      (λ does. put_held at (Some does.2.0) (Some name) does.2.2 ((does.2.0, does.2.1, refl), tt) held)
      (λ cause refused. stays_held refused.same.names refused.same.stays held)
  step_held (request.Unit at) answer after reads step held =
      either (refusal_of old (request.Unit at)) step
      (λ does. gone_held does.2 at (record (set_bay old.station at (fresh_bay None)) { spares = old.station.spares - 1 }) does.3.becomes (λ bay. refl) held)
      (λ cause refused. stays_held refused.same.names refused.same.stays held)
  step_held (request.Blank at name count) answer after reads step held = absurd (true≢false (sym reads))
  step_held (request.BlankDd at name count) answer after reads step held = absurd (true≢false (sym reads))
  step_held (request.Eject at) answer after reads step held = absurd (true≢false (sym reads))
  step_held asked answer after reads step held =
      let calm = calm_step asked old told answer new after refl step in
      altered_held asked reads calm.0 calm.2 held

-- ---- a run

no_store : (asked : Request) (answer : Reply) (state : State) → only_reads asked ≡ true → stores_by asked answer state ≡ []
no_store (request.Eject at) answer state reads = absurd (true≢false (sym reads))
no_store _ answer state reads = refl

no_stores : (state : State) (course : List Taken) → AllRead (requests_of course) → stores_of state course ≡ []
no_stores state [] reads = refl
no_stores state (taken ∷ later) reads =
    ap (λ (l : List Store). l ++ stores_of taken.after later) (no_store taken.asked taken.answer state reads.0) ∙ no_stores taken.after later reads.1

-- the files stay in a step of a request that only reads
files_stay : (old new : State) (told after : Option Files) (asked : Request) (answer : Reply) → only_reads asked ≡ true → Step asked old told answer new after
    → after ≡ told
files_stay old new told after asked answer reads step =
    step_stores asked old new told after answer step ∙ ap (λ (l : List Store). all_stored told l) (no_store asked answer old reads)

run_held : (old new : State) (told after : Option Files) (course : List Taken) → Run old told course new after → AllRead (requests_of course)
    → Held told old → Held told (state_after old course)
run_held old new told after [] run reads held = held
run_held old new told after (taken ∷ later) run reads held =
    let same = files_stay old taken.after told run.0 taken.asked taken.answer reads.0 run.1 in
    let rest : Run taken.after told later new after = subst (λ (f : Option Files). Run taken.after f later new after) same run.2 in
    run_held taken.after new told after later rest reads.1 (step_held told old taken.after taken.asked taken.answer run.0 reads.0 run.1 held)

-- the stores of both bays at the end
append_again : (told : Option Files) (one two : List Store) → AreStoredAgain told one → AreStoredAgain told two → AreStoredAgain told (one ++ two)
append_again told [] two is more = more
append_again told (store ∷ one) two is more = (is.0, append_again told one two is.1 more)

end_again : (told : Option Files) (state : State) → Held told state → AreStoredAgain told (end_stores state)
end_again told state held = append_again told (bay_store state 0) (bay_store state 1) (held 0) (held 1)

-- a session begins with nothing in its bays
empty_bay : (bay : ℕ) → in_bay (both (fresh_bay None)) bay ≡ fresh_bay None
empty_bay bay =
    let empty = both (fresh_bay None) in
    each_bay empty empty (λ x y. x ≡ fresh_bay None) bay refl refl

begun_held : (board : Board) (spares : List DriveCounts) (start : State) (told : Option Files) → IsSetUp board spares start → Held told start
begun_held board spares start told set_up bay =
    let bay_is : bay_of start.station bay ≡ fresh_bay None = ap (λ (b : Two Bay). in_bay b bay) set_up.fresh.bays ∙ empty_bay bay in
    subst (AreStoredAgain told) (sym (ap (λ (b : Bay). medium_store b.medium (in_bay start.names bay)) bay_is)) tt

-- ---- the requests of a job

front : (one two : List Request) → AllRead (one ++ two) → AllRead one
front [] two reads = tt
front (asked ∷ one) two reads = (reads.0, front one two reads.1)

pub reading_stores : (job : List ℕ) (spares : List DriveCounts) (old new : Board) (before after : Outside) (ended : Status) (requests : List Request)
    (over : RunsOver (Some (form.Play job)) old spares before new after ended) → IsJob before.files job requests → AllRead requests
    → StoresAgainAtEnd over.start over.runs.course before.files after.files
reading_stores job spares old new before after ended requests over spelled reads =
    let first = world over.start before.files before.report in
    let last = world over.last after.files after.report in
    let asked = first_asked job requests first last over.runs.course ended spelled over.runs.does in
    let read = front (requests_of over.runs.course) asked.0 (subst AllRead asked.1 reads) in
    let none = no_stores over.start over.runs.course read in
    let ran = form_runs (form.Play job) spares old new before after ended over in
    record {
      nothing_before = none;
      at_the_end = subst (λ (l : List Store). StoresFirst (end_stores (state_after over.start over.runs.course)) (all_stored before.files l) after.files) none
          (each_form_stores (Some (form.Play job)) spares old new before after ended over);
      again = end_again before.files (state_after over.start over.runs.course)
          (run_held over.start ran.0 before.files ran.1 over.runs.course ran.2 read (begun_held old spares over.start before.files over.set_up));
    }
