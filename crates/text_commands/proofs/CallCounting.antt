-- Each request of a call counts no more than it may, and so does the call.
use Rattle.std.proofs.Common.{arith, ◌≡◌, ℕ, zero, suc, ◌+◌, ◌*◌, ◌≤◌, Bool, true, false, List, [], ◌∷◌, ◌++◌, refl, sym, ap, ◌∙◌, subst, Option, Some, None, Result, Ok, Err}
use Rattle.std.proofs.lemmas.List.Sums.{sum_by-cons}
use Rattle.std.specs.Prelude.{MatchOption, MatchBool, sum_by, map}
use Rattle.std.specs.List.{range_with_len}
use Rattle.text_commands.proofs.Common.{Files, Request, Reply, is_bay, is_acknowledged, read_refusal, write_refusal, IsRefusedAtOnce, State, IsSame, Step, Does, refusal_of, Taken, Run, requests_of, run_more, requests_more, Kind, Read, Write, Verify, Work, Answer, Changed, Move, MovesRecords, All, UpToOne, MovesIn, AcksAlone, DoesWork, record_request, put_request}
use Rattle.flop_base.specs.declared.key.Chrn.{Chrn}
use Rattle.flop_base.specs.declared.answers.Code.{Code}
use Rattle.floppy_jobs.specs.declared.request.Request.TheVariants as request
use Rattle.sector_model.specs.Stations.{StationState}
use Rattle.sector_model.specs.Reads.{ReadsDrive}
use Rattle.sector_model.specs.Calls.{AcksDrive}
use Rattle.bios_int13.specs.Services.{record_requests, put_requests}
use Rattle.text_commands.specs.CallCounts.{commands_of, bytes_put, CountsCourse}

either : {A : Type 0} {P R : Type 0} {Q : A → Type 0} (value : Option A) → MatchOption value P Q → (P → R) → ((x : A) → Q x → R) → R
either None holds none some = none holds
either (Some x) holds none some = some x holds

-- a step counts no more than this, and leaves the number of attempts
record Counts (commands accesses : ℕ) (old new : StationState) : Type 0 where
  pub tries : new.tries ≡ old.tries
  pub sent : new.counters.data_commands ≤ old.counters.data_commands + commands
  pub put : new.counters.direct ≤ old.counters.direct + accesses

-- the requests that calls run
abbrev OfCall : Request → Type 0
OfCall (request.Read bay key address) = Unit {0}
OfCall (request.Write bay key address) = Unit {0}
OfCall (request.Ack bay) = Unit {0}
OfCall (request.Fill address count byte) = Unit {0}
OfCall (request.Dump address count) = Unit {0}
OfCall _ = ⊥

at_once : {A : Type 0} (n : ℕ) (old new : StationState) (code : Code) (answer : Result A Code) → IsRefusedAtOnce code old answer new → Counts n 0 old new
at_once n old new code answer refused = record {
  tries = ap (λ (s : StationState). s.tries) refused.stays;
  sent = omega (arith, refused.idle.most_commands);
  put = omega (arith, refused.idle.past_driver);
}

same_counts : {accesses : ℕ} (old new : State) → IsSame accesses old new → Counts 0 0 old.station new.station
same_counts old new same = record {
  tries = ap (λ (s : StationState). s.tries) same.stays;
  sent = omega (arith, same.idle.most_commands);
  put = omega (arith, same.idle.past_driver);
}

read_counts : (old new : StationState) (bay : ℕ) (key : Chrn) (address : ℕ) (answer : Result Bool Code) → ReadsDrive bay key address old answer new → Counts old.tries 0 old new
read_counts old new bay key address (Ok deleted) reads = record {
  tries = ap (λ (s : StationState). s.tries) reads.found.becomes;
  sent = reads.driven.most_commands;
  put = omega (arith, reads.driven.past_driver);
}
read_counts old new bay key address (Err code) reads = record {
  tries = ap (λ (s : StationState). s.tries) reads.refused.becomes;
  sent = reads.driven.most_commands;
  put = omega (arith, reads.driven.past_driver);
}

ack_counts : (old new : StationState) (bay : ℕ) (answer : Result (Unit {0}) Code) → AcksDrive bay old answer new → Counts 6 0 old new
ack_counts old new bay (Ok u) acks = let done = acks.done refl in record {
  tries = ap (λ (s : StationState). s.tries) done.becomes;
  sent = acks.driven.most_commands;
  put = omega (arith, acks.driven.past_driver);
}
ack_counts old new bay (Err code) acks = record {
  tries = ap (λ (s : StationState). s.tries) acks.refused.becomes;
  sent = acks.driven.most_commands;
  put = omega (arith, acks.driven.past_driver);
}

ack_either : (b : Bool) (old new : StationState) (bay : ℕ) (answer : Result (Unit {0}) Code) (code : Code) → MatchBool b (AcksDrive bay old answer new) (IsRefusedAtOnce code old answer new) → Counts 6 0 old new
ack_either true old new bay answer code acks = ack_counts old new bay answer acks
ack_either false old new bay answer code acks = at_once 6 old new code answer acks

does_counts : (old new : State) (told after : Option Files) (asked : Request) (answer : Reply) → OfCall asked → Does asked old told answer new after → Counts (commands_of old.station.tries asked) (bytes_put asked) old.station new.station
does_counts old new told after (request.Read bay key address) answer of does = either (read_refusal old.station bay key address) does.1.2 (read_counts old.station new.station bay key address does.1.0) (λ code refused. at_once old.station.tries old.station new.station code does.1.0 refused)
does_counts old new told after (request.Write bay key address) answer of does = either (write_refusal old.station bay key address) does.1.2
    (λ writes. record { tries = ap (λ (s : StationState). s.tries) writes.becomes; sent = writes.driven.most_commands; put = omega (arith, writes.driven.past_driver) })
    (λ code refused. at_once (2 * old.station.tries) old.station new.station code does.1.0 refused)
does_counts old new told after (request.Ack bay) answer of does = ack_either (is_bay bay) old.station new.station bay does.1.0 _ does.1.2
does_counts old new told after (request.Fill address count byte) answer of does = record {
  tries = ap (λ (s : StationState). s.tries) does.2.becomes;
  sent = omega (arith, does.2.access.no_commands);
  put = does.2.access.accesses;
}
does_counts old new told after (request.Dump address count) answer of does = same_counts old new does.2
does_counts old new told after _ answer of does = absurd of

more : (n m : ℕ) (old new : StationState) → Counts 0 0 old new → Counts n m old new
more n m old new counts = record { tries = counts.tries; sent = omega (arith, counts.sent); put = omega (arith, counts.put) }

step_counts : (old new : State) (told after : Option Files) (asked : Request) (answer : Reply) → OfCall asked → Step asked old told answer new after → Counts (commands_of old.station.tries asked) (bytes_put asked) old.station new.station
step_counts old new told after asked answer of step =
    either (refusal_of old asked) step (does_counts old new told after asked answer of)
    (λ cause refused. more _ _ old.station new.station (same_counts old new refused.same))

-- all requests are of those that calls run
abbrev AllOfCall : List Request → Type 0
AllOfCall [] = Unit {0}
AllOfCall (asked ∷ later) = OfCall asked × AllOfCall later

run_counts : (old new : State) (told after : Option Files) (course : List Taken) → AllOfCall (requests_of course) → Run old told course new after → Counts (sum_by (commands_of old.station.tries) (requests_of course)) (sum_by bytes_put (requests_of course)) old.station new.station
run_counts old new told after [] all run = subst (λ (s : State). Counts 0 0 old.station s.station) (sym run.0) (record { tries = refl; sent = omega arith; put = omega arith })
run_counts old new told after (taken ∷ later) all run =
    let one = step_counts old taken.after told run.0 taken.asked taken.answer all.0 run.1 in
    let rest = run_counts taken.after new run.0 after later all.1 run.2 in
    let sent = subst (λ (t : ℕ). new.station.counters.data_commands ≤ taken.after.station.counters.data_commands + sum_by (commands_of t) (requests_of later)) one.tries rest.sent in
    record {
      tries = rest.tries ∙ one.tries;
      sent = omega (arith, one.sent, sent, sum_by-cons (commands_of old.station.tries) taken.asked (requests_of later));
      put = omega (arith, one.put, rest.put, sum_by-cons bytes_put taken.asked (requests_of later));
    }

-- ---- The requests of a call.

joined : (first second : List Request) → AllOfCall first → AllOfCall second → AllOfCall (first ++ second)
joined [] second one two = two
joined (asked ∷ later) second one two = (one.0, joined later second one.1 two)

front : (first : List Request) (asked : Request) (later : List Request) → AllOfCall (first ++ asked ∷ later) → AllOfCall (first ++ asked ∷ [])
front [] asked later all = (all.0, tt)
front (one ∷ first) asked later all = (all.0, front first asked later all.1)

mapped : (f : ℕ → Request) → ((i : ℕ) → OfCall (f i)) → (start count : ℕ) → AllOfCall (map f (range_with_len start count))
mapped f each start zero = tt
mapped f each start (suc count) = (each start, mapped f each (start + 1) count)

record_of : (kind : Kind) (bay : ℕ) (key : Chrn) (address : ℕ) → OfCall (record_request kind bay key address)
record_of Read bay key address = tt
record_of Write bay key address = tt
record_of Verify bay key address = tt

records_of : (kind : Kind) (bay : ℕ) (first : Chrn) (count address : ℕ) → AllOfCall (record_requests kind bay first address count)
unfolding record_requests
records_of kind bay first count address = mapped _ (λ i. record_of kind bay _ _) 0 count

puts_of : (address : ℕ) (bytes : List ℕ) → AllOfCall (put_requests address bytes)
unfolding put_requests
puts_of address bytes = mapped (put_request address bytes) (λ i. tt) 0 _

-- the requests that move records are of those that calls run, whether all were done or some
moved_of : (asked : List Request) (old new : State) (told : Option Files) (course : List Taken) (code moved : ℕ) → AllOfCall asked → MovesRecords asked old told course code moved new → AllOfCall (requests_of course)
moved_of asked old new told course code moved all (All done many fine) = subst AllOfCall (sym done.asked) all
moved_of asked old new told course code moved all (UpToOne p) =
    subst (λ (c : List Taken). AllOfCall (requests_of c)) (sym p.course_is)
    (subst AllOfCall (sym (requests_more p.before _ ∙ ap (λ (r : List Request). r ++ p.next ∷ []) p.done_well.asked))
    (front p.done p.next p.later (subst AllOfCall p.parts all)))

parts_of : (first second : List Taken) → requests_of (first ++ second) ≡ requests_of first ++ requests_of second
parts_of [] second = refl
parts_of (taken ∷ later) second = ap (λ (r : List Request). taken.asked ∷ r) (parts_of later second)

in_of : (kind : Kind) (address : ℕ) (asked : List Request) (old new : State) (told : Option Files) (course : List Taken) (code moved : ℕ) → AllOfCall asked → MovesIn kind address asked old told course code moved new → AllOfCall (requests_of course)
in_of Verify address asked old new told course code moved all p =
    subst (λ (c : List Taken). AllOfCall (requests_of c)) (sym p.course_is)
    (subst AllOfCall (sym (parts_of p.reads p.puts))
    (joined (requests_of p.reads) (requests_of p.puts) (moved_of asked old p.mid told p.reads code moved all p.moves) (subst AllOfCall (sym p.puts_back.asked) (puts_of address _))))
in_of _ address asked old new told course code moved all p = moved_of asked old new told course code moved all p

goes_of : (b : Bool) (kind : Kind) (bay address : ℕ) (asked : List Request) (old new : State) (told : Option Files) (course : List Taken) (code moved : ℕ) → AllOfCall asked → MatchBool b (MovesIn kind address asked old told course code moved new) (AcksAlone bay old told course code moved new) → AllOfCall (requests_of course)
goes_of true kind bay address asked old new told course code moved all goes = in_of kind address asked old new told course code moved all goes
goes_of false kind bay address asked old new told course code moved all p = subst (λ (c : List Taken). AllOfCall (requests_of c)) (sym p.course_is) (tt, tt)

work_of_call : (work : Work) (old new : State) (told : Option Files) (course : List Taken) (code moved : ℕ) → DoesWork work old told course code moved new → AllOfCall (requests_of course)
work_of_call (Answer planned) old new told course code moved p = subst (λ (c : List Taken). AllOfCall (requests_of c)) (sym p.nothing) tt
work_of_call (Changed bay) old new told course code moved p = subst (λ (c : List Taken). AllOfCall (requests_of c)) (sym p.course_is) (tt, tt)
work_of_call (Move kind bay c h r count address) old new told course code moved p =
    subst (λ (c : List Taken). AllOfCall (requests_of c)) (sym p.course_is)
    (tt, goes_of (is_acknowledged old.station bay) kind bay address _ p.looked new told p.later code moved (records_of kind bay _ count address) p.goes)

-- ---- The run of a call.

-- two runs, one after the other, are one
run_join : (old mid new : State) (told mid_told after : Option Files) (first second : List Taken) → Run old told first mid mid_told → Run mid mid_told second new after → Run old told (first ++ second) new after
run_join old mid new told mid_told after [] second run next =
    subst (λ (s : State). Run s told second new after) run.0 (subst (λ (f : Option Files). Run mid f second new after) run.1 next)
run_join old mid new told mid_told after (taken ∷ later) second run next =
    (run.0, run.1, run_join taken.after mid new run.0 mid_told after later second run.2 next)

at_course : (old new : State) (told after : Option Files) (course other : List Taken) → course ≡ other → Run old told other new after → Run old told course new after
at_course old new told after course other is run = subst (λ (c : List Taken). Run old told c new after) (sym is) run

records_run : (asked : List Request) (old new : State) (told : Option Files) (course : List Taken) (code moved : ℕ) → MovesRecords asked old told course code moved new → Run old told course new told
records_run asked old new told course code moved (All done many fine) = done.run
records_run asked old new told course code moved (UpToOne p) = at_course old new told told course _ p.course_is (run_more old p.mid told told told p.before _ p.done_well.run p.step)

in_run : (kind : Kind) (address : ℕ) (asked : List Request) (old new : State) (told : Option Files) (course : List Taken) (code moved : ℕ) → MovesIn kind address asked old told course code moved new → Run old told course new told
in_run Verify address asked old new told course code moved p = at_course old new told told course _ p.course_is (run_join old p.mid new told told told p.reads p.puts (records_run asked old p.mid told p.reads code moved p.moves) p.puts_back.run)
in_run _ address asked old new told course code moved moves = records_run asked old new told course code moved moves

goes_run : (b : Bool) (kind : Kind) (bay address : ℕ) (asked : List Request) (old new : State) (told : Option Files) (course : List Taken) (code moved : ℕ) → MatchBool b (MovesIn kind address asked old told course code moved new) (AcksAlone bay old told course code moved new) → Run old told course new told
goes_run true kind bay address asked old new told course code moved goes = in_run kind address asked old new told course code moved goes
goes_run false kind bay address asked old new told course code moved p = at_course old new told told course _ p.course_is (told, p.step, (refl, refl))

-- the work of a call is a run of requests
work_run : (work : Work) (old new : State) (told : Option Files) (course : List Taken) (code moved : ℕ) → DoesWork work old told course code moved new → Run old told course new told
work_run (Answer planned) old new told course code moved p = at_course old new told told course [] p.nothing (p.same, refl)
work_run (Changed bay) old new told course code moved p = at_course old new told told course _ p.course_is (told, (refl, refl, p.same), (refl, refl))
work_run (Move kind bay c h r count address) old new told course code moved p =
    at_course old new told told course _ p.course_is
    (told, (refl, refl, p.same), goes_run (is_acknowledged old.station bay) kind bay address _ p.looked new told p.later code moved p.goes)

pub call_counts : (work : Work) (old new : State) (told : Option Files) (course : List Taken) (code moved : ℕ) → DoesWork work old told course code moved new → CountsCourse old.station course new.station
call_counts work old new told course code moved does =
    let counts = run_counts old new told told course (work_of_call work old new told course code moved does) (work_run work old new told course code moved does) in
    record { commands = counts.sent; accesses = counts.put }
