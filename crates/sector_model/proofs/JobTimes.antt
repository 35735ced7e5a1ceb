-- How long the run of a job lasts, and how many port accesses it makes.
use Rattle.std.proofs.Common.{arith, ◌≡◌, ℕ, ◌+◌, ◌*◌, ◌≤◌, ◌==◌, Bool, true, false, if◌then◌else◌, List, [], ◌∷◌, ◌++◌, sym, ap, subst, Option, Result, Ok, Err}
use Rattle.std.specs.Prelude.{MatchOption, MatchBool}
use Rattle.sector_model.proofs.Common.{sum_by-cons, Counters, CostsUpTo, Files, Code, Status, job_of, Request, Reply, StationState, bay_of, IsRefusedAtOnce, read_refusal, write_refusal, format_refusal, rate_refusal, is_bay, State, IsSame, ChangesMedium, Step, Does, refusal_of, AfterStop, Taken, Run, requests_of, Ends, EndsBay, Stored, Left, EndStopsAt, AtFirst, AtSecond, World, PlaysRequests, Played, Stopped, BrokenOff, EndStopped, PlaysParsed, Plays, There, Missing, TooLong, Faulty, Starved}
use Rattle.std.proofs.Math.Nat.{mul-le-mul, mul-le-mul_left, mul-le-mul_right}
use Rattle.flop_base.proofs.Costs.{costs_after, costs_none, costs_twice, costs_within}
use Rattle.flop_base.specs.Standard.{sectors_at}
use Rattle.flop_base.specs.declared.answers.Rate.{Rate}
use Rattle.flop_base.specs.declared.answers.Rate.TheVariants.{R500, R250}
use Rattle.floppy_jobs.specs.declared.request.Request.TheVariants as request
use Rattle.sector_model.specs.Lasting.{ack_port_accesses, ack_time, format_once_port_accesses, format_steps, format_turns, turn_of}
use Rattle.sector_model.specs.Times.{AreWithin, IsWithin, course_port_accesses, course_time, job_port_accesses, job_time, most_port_accesses, most_time, port_accesses_of, time_of}
use Rattle.sector_model.proofs.Runs.{run_more}
use Rattle.sector_model.proofs.Ties.{either}

-- ---- a step

pub same_within : (few most : ℕ) (old new : State) → few ≤ most → IsSame few old new → IsSame most old new
same_within few most old new less same = record {
  names = same.names;
  stays = same.stays;
  idle = same.idle;
  costs = costs_within 0 0 few most old.station.counters new.station.counters (omega arith) less same.costs;
  counts = same.counts;
}

-- a call of the driver that may be refused at once
called_costs : {A : Type 0} {P : Type 0} (refusal : Option Code) (answer : Result A Code) (steps accesses : ℕ) (old new : StationState) → MatchOption refusal P (λ code. IsRefusedAtOnce code old answer new)
    → 6 ≤ accesses → (P → CostsUpTo steps accesses old.counters new.counters) → CostsUpTo steps accesses old.counters new.counters
called_costs refusal answer steps accesses old new called many reached =
    either refusal called reached (λ code refused. costs_within 0 steps 6 accesses old.counters new.counters (omega arith) many refused.costs)

acks_cost : {P : Type 0} (good : Bool) (old new : StationState) (answer : Result (Unit {0}) Code) (code : Code) (steps accesses : ℕ) → MatchBool good P (IsRefusedAtOnce code old answer new)
    → 6 ≤ accesses → (P → CostsUpTo steps accesses old.counters new.counters) → CostsUpTo steps accesses old.counters new.counters
acks_cost true old new answer code steps accesses called many reached = reached called
acks_cost false old new answer code steps accesses called many reached = costs_within 0 steps 6 accesses old.counters new.counters (omega arith) many called.costs

changed_costs : (old new : State) (bay : ℕ) (name : Option (List ℕ)) (medium : Option _) → ChangesMedium bay name medium old new → CostsUpTo 0 0 old.station.counters new.station.counters
changed_costs old new bay name medium changes = changes.exchanged.access.no_cost

abbrev Costs : Request → StationState → StationState → Type 0
Costs asked old new = CostsUpTo (time_of asked old) (port_accesses_of asked old) old.counters new.counters

does_costs : (old new : State) (told after : Option Files) (asked : Request) (answer : Reply) → Does asked old told answer new after → Costs asked old.station new.station
does_costs old new told after (request.Insert bay name) answer does = changed_costs old new bay _ _ does.2.2
does_costs old new told after (request.Blank bay name cylinders) answer does = changed_costs old new bay _ _ does.2
does_costs old new told after (request.BlankDd bay name cylinders) answer does = changed_costs old new bay _ _ does.2
does_costs old new told after (request.Eject bay) answer does = changed_costs old new bay _ _ does.1.4
does_costs old new told after (request.Ack bay) answer does = acks_cost (is_bay bay) old.station new.station does.1.0 _ (ack_time old.station bay) ack_port_accesses does.1.2 (omega arith) (λ p. p.costs)
does_costs old new told after (request.Read bay key address) answer does =
    called_costs (read_refusal old.station bay key address) does.1.0 _ (port_accesses_of (request.Read bay key address) old.station) old.station new.station does.1.2 (omega arith) (λ p. p.costs)
does_costs old new told after (request.Write bay key address) answer does =
    called_costs (write_refusal old.station bay key address) does.1.0 _ (port_accesses_of (request.Write bay key address) old.station) old.station new.station does.1.2 (omega arith) (λ p. p.costs)
does_costs old new told after (request.WriteDeleted bay key address) answer does =
    called_costs (write_refusal old.station bay key address) does.1.0 _ (port_accesses_of (request.Write bay key address) old.station) old.station new.station does.1.2 (omega arith) (λ p. p.costs)
does_costs old new told after (request.Format bay c h) answer does =
    called_costs (format_refusal old.station bay c h _) does.1.0 _ (port_accesses_of (request.Format bay c h) old.station) old.station new.station does.1.2 (omega arith) (λ p. p.costs)
does_costs old new told after (request.Fill address count byte) answer does = does.2.access.no_cost
does_costs old new told after (request.Dump address count) answer does = does.2.costs
does_costs old new told after (request.Unit bay) answer does = does.3.access.no_cost
does_costs old new told after (request.SetRate bay rate) answer does =
    called_costs (rate_refusal old.station bay) does.1.0 0 6 old.station new.station does.1.2 (omega arith)
    (λ p. costs_within 0 0 2 6 old.station.counters new.station.counters (omega arith) (omega arith) p.costs)
does_costs old new told after (request.Tries tries) answer does = does.2.no_cost

step_costs : (old new : State) (told after : Option Files) (asked : Request) (answer : Reply) → Step asked old told answer new after → Costs asked old.station new.station
step_costs old new told after asked answer step =
    either (refusal_of old asked) step (does_costs old new told after asked answer)
    (λ cause refused. costs_within 0 (time_of asked old.station) 0 (port_accesses_of asked old.station) old.station.counters new.station.counters (omega arith) (omega arith) refused.same.costs)

-- ---- a run, and its end

abbrev CourseCosts : StationState → List Taken → Counters → Type 0
CourseCosts old course new = CostsUpTo (course_time old course) (course_port_accesses old course) old.counters new

pub run_costs : (old new : State) (told after : Option Files) (course : List Taken) → Run old told course new after → CourseCosts old.station course new.station.counters
run_costs old new told after [] run = subst (λ (s : State). CostsUpTo 0 0 old.station.counters s.station.counters) (sym run.0) (costs_none 0 0 old.station.counters)
run_costs old new told after (taken ∷ later) run =
    costs_twice (time_of taken.asked old.station) (course_time taken.after.station later) (port_accesses_of taken.asked old.station) (course_port_accesses taken.after.station later)
    old.station.counters taken.after.station.counters new.station.counters
    (step_costs old taken.after told run.0 taken.asked taken.answer run.1) (run_costs taken.after new run.0 after later run.2)

-- a stop costs nothing
stopped_costs : (old new : State) (asked : Request) → AfterStop asked old new → CostsUpTo 0 0 old.station.counters new.station.counters
stopped_costs old new (request.Eject bay) stopped = changed_costs old new bay _ _ stopped
stopped_costs old new _ stopped = stopped.costs

bay_costs : (old new : State) (told after : Option Files) (bay : ℕ) → EndsBay bay old told new after → CostsUpTo 0 0 old.station.counters new.station.counters
bay_costs old new told after bay (Stored stores) = changed_costs old new bay _ _ stores.4
bay_costs old new told after bay (Left left) = left.same.costs

ends_cost : (old new : State) (told after : Option Files) → Ends old told new after → CostsUpTo 0 0 old.station.counters new.station.counters
ends_cost old new told after ends =
    costs_twice 0 0 0 0 old.station.counters ends.0.station.counters new.station.counters (bay_costs old ends.0 told ends.1 0 ends.2) (bay_costs ends.0 new ends.1 after 1 ends.3)

end_stop_costs : (old new : State) (told after : Option Files) → EndStopsAt old told new after → CostsUpTo 0 0 old.station.counters new.station.counters
end_stop_costs old new told after (AtFirst drops same) = changed_costs old new 0 _ _ drops.changes
end_stop_costs old new told after (AtSecond mid ends drops) =
    costs_twice 0 0 0 0 old.station.counters mid.station.counters new.station.counters (bay_costs old mid told after 0 ends) (changed_costs mid new 1 _ _ drops.changes)

run_and : (old mid : State) (told after : Option Files) (course : List Taken) (new : Counters) → Run old told course mid after → CostsUpTo 0 0 mid.station.counters new
    → CourseCosts old.station course new
run_and old mid told after course new run none =
    costs_after (course_time old.station course) (course_port_accesses old.station course) old.station.counters mid.station.counters new (run_costs old mid told after course run) none

-- ---- a job

abbrev PlayCosts : World → List Taken → World → Type 0
PlayCosts old course new = CourseCosts old.state.station course new.state.station.counters

requests_cost : (old new : World) (requests : List Request) (course : List Taken) (ended : Status) → PlaysRequests requests old course new ended → PlayCosts old course new
requests_cost old new requests course ended (Played p) = run_and old.state p.mid old.files p.files course new.state.station.counters p.run (ends_cost p.mid new.state p.files new.files p.stored)
requests_cost old new requests course ended (Stopped p) = run_and old.state p.mid old.files p.files course new.state.station.counters p.run (stopped_costs p.mid new.state p.asked p.stops.after)
requests_cost old new requests course ended (BrokenOff p) =
    let run = run_more old.state p.mid old.files p.files new.files p.before p.last p.run p.step in
    let costs = run_costs old.state p.last.after old.files new.files (p.before ++ p.last ∷ []) run in
    subst (λ (steps : List Taken). PlayCosts old steps new) (sym p.course_is)
    (subst (λ (s : State). CourseCosts old.state.station (p.before ++ p.last ∷ []) s.station.counters) (sym p.after) costs)
requests_cost old new requests course ended (EndStopped p) = run_and old.state p.mid old.files p.files course new.state.station.counters p.run (end_stop_costs p.mid new.state p.files new.files p.stops)

-- nothing was run and the state stays
stays_costs : (old new : World) (course : List Taken) → course ≡ [] → new.state ≡ old.state → PlayCosts old course new
stays_costs old new course nothing same =
    subst (λ (steps : List Taken). PlayCosts old steps new) (sym nothing)
    (subst (λ (s : State). CostsUpTo 0 0 old.state.station.counters s.station.counters) (sym same) (costs_none 0 0 old.state.station.counters))

parsed_costs : (old new : World) (parsed : Result (List Request) ℕ) (course : List Taken) (ended : Status) → PlaysParsed parsed old course new ended → PlayCosts old course new
parsed_costs old new (Ok requests) course ended plays = requests_cost old new requests course ended plays
parsed_costs old new (Err line) course ended alone = stays_costs old new course alone.nothing alone.tells.state

pub play_costs : (old new : World) (job : List ℕ) (course : List Taken) (ended : Status) → Plays job old course new ended → PlayCosts old course new
play_costs old new job course ended (There p) = parsed_costs old new (job_of p.text) course ended p.plays
play_costs old new job course ended (Missing absent alone) = stays_costs old new course alone.nothing alone.tells.state
play_costs old new job course ended (TooLong longer alone) = stays_costs old new course alone.nothing alone.tells.state
play_costs old new job course ended (Faulty nothing idle) = stays_costs old new course nothing (ap (λ (w : World). w.state) idle.same)
play_costs old new job course ended (Starved nothing idle) = stays_costs old new course nothing (ap (λ (w : World). w.state) idle.same)

-- ---- by the requests alone

turn_within : (turn tries : ℕ) (station : StationState) (bay : ℕ) → IsWithin turn tries station → turn_of (bay_of station bay).medium ≤ turn
turn_within turn tries station bay within = by_bay (bay == 0)
  where
    by_bay : (is_first : Bool) → turn_of (if is_first then station.bays.first else station.bays.second).medium ≤ turn
    by_bay true = within.first
    by_bay false = within.second

-- attempts of `t` revolutions and `n` steps each
attempts_within : (tries most turn longest t n : ℕ) → tries ≤ most → turn ≤ longest → tries * t * turn + tries * n ≤ most * (t * longest + n)
attempts_within tries most turn longest t n few short =
    let many = mul-le-mul few (mul-le-mul_left t short) in
    let steps = mul-le-mul_right n few in
    omega (arith, many, steps)

more_turns : (tries most turn longest t u n m : ℕ) → tries ≤ most → turn ≤ longest → t ≤ u → n ≤ m → tries * t * turn + tries * n ≤ most * (u * longest + m)
more_turns tries most turn longest t u n m few short wide long =
    let many = mul-le-mul few (mul-le-mul wide short) in
    let steps = mul-le-mul few long in
    omega (arith, many, steps)

few_sectors : (rate : Rate) → sectors_at rate ≤ 18
few_sectors R500 = omega arith
few_sectors R250 = omega arith

time_within : (turn tries : ℕ) (station : StationState) (asked : Request) → IsWithin turn tries station → time_of asked station ≤ most_time turn tries asked
time_within turn tries station (request.Ack bay) within = let short = turn_within turn tries station bay within in omega arith
time_within turn tries station (request.Read bay key address) within =
    attempts_within station.tries tries (turn_of (bay_of station bay).medium) turn 2 504 within.attempts (turn_within turn tries station bay within)
time_within turn tries station (request.Write bay key address) within =
    attempts_within station.tries tries (turn_of (bay_of station bay).medium) turn 4 765 within.attempts (turn_within turn tries station bay within)
time_within turn tries station (request.WriteDeleted bay key address) within =
    attempts_within station.tries tries (turn_of (bay_of station bay).medium) turn 4 765 within.attempts (turn_within turn tries station bay within)
time_within turn tries station (request.Format bay c h) within =
    let rate = (bay_of station bay).rate in
    let few = few_sectors rate in
    more_turns station.tries tries (turn_of (bay_of station bay).medium) turn (format_turns rate) 38 (format_steps rate) 5202 within.attempts (turn_within turn tries station bay within) (omega arith) (omega arith)
time_within turn tries station _ within = omega arith

pub course_within : (turn tries : ℕ) (station : StationState) (course : List Taken) → AreWithin turn tries station course → course_time station course ≤ job_time turn tries (requests_of course)
course_within turn tries station [] within = omega arith
course_within turn tries station (taken ∷ later) (here, others) =
    let one = time_within turn tries station taken.asked here in
    let more = course_within turn tries taken.after.station later others in
    let sum = sum_by-cons (most_time turn tries) taken.asked (requests_of later) in
    omega (arith, one, more, sum)

-- attempts of `p` port accesses each, after six
accesses_within : (tries most p q : ℕ) → tries ≤ most → p ≤ q → 6 + tries * p ≤ 6 + most * q
accesses_within tries most p q few less = let many = mul-le-mul few less in omega (arith, many)

port_accesses_within : (turn tries : ℕ) (station : StationState) (asked : Request) → IsWithin turn tries station → port_accesses_of asked station ≤ most_port_accesses tries asked
port_accesses_within turn tries station (request.Read bay key address) within = accesses_within station.tries tries 48 48 within.attempts (omega arith)
port_accesses_within turn tries station (request.Write bay key address) within = accesses_within station.tries tries 77 77 within.attempts (omega arith)
port_accesses_within turn tries station (request.WriteDeleted bay key address) within = accesses_within station.tries tries 77 77 within.attempts (omega arith)
port_accesses_within turn tries station (request.Format bay c h) within =
    let few = few_sectors (bay_of station bay).rate in
    accesses_within station.tries tries (format_once_port_accesses (bay_of station bay).rate) 567 within.attempts (omega arith)
port_accesses_within turn tries station _ within = omega arith

pub course_accesses_within : (turn tries : ℕ) (station : StationState) (course : List Taken) → AreWithin turn tries station course
    → course_port_accesses station course ≤ job_port_accesses tries (requests_of course)
course_accesses_within turn tries station [] within = omega arith
course_accesses_within turn tries station (taken ∷ later) (here, others) =
    let one = port_accesses_within turn tries station taken.asked here in
    let more = course_accesses_within turn tries taken.after.station later others in
    let sum = sum_by-cons (most_port_accesses tries) taken.asked (requests_of later) in
    omega (arith, one, more, sum)
