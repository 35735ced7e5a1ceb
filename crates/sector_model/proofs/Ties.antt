-- Each step ties its counts, and so does a run.
use Rattle.std.proofs.Common.{arith, ◌≡◌, ℕ, ◌+◌, ◌-◌, ◌≤◌, Bool, true, false, List, [], ◌∷◌, refl, sym, ap, subst, Option, Some, None, Result}
use Rattle.sector_model.proofs.Common.{sum_by-cons, RoseBy, Files, Code, Counters, GoesOn, IsDriven, IsPastDriver, Request, Reply, Reason, Stop, StationState, IsRefusedAtOnce, read_refusal, write_refusal, format_refusal, rate_refusal, is_bay, State, IsSame, ChangesMedium, Step, Does, refusal_of, StopsAt, AfterStop, Taken, Run, requests_of, Ends, EndsBay, Stored, Left, EndStopsAt, AtFirst, AtSecond, entered_by, accesses_of, counters_after, goes_on_after}
use Rattle.std.specs.Prelude.{MatchOption, MatchBool, sum_by}
use Rattle.floppy_jobs.specs.declared.request.Request.TheVariants as request
use Rattle.sector_model.specs.declared.reply.Reply.TheVariants as reply
use Rattle.sector_model.proofs.Counted.{exchange_goes}

-- one of two cases holds, and each gives the fact
pub either : {A : Type 0} {P R : Type 0} {Q : A → Type 0} (value : Option A) → MatchOption value P Q → (P → R) → ((x : A) → Q x → R) → R
either None holds none some = none holds
either (Some x) holds none some = some x holds

-- what holds of the counts before and after some calls. Each data command has an interrupt, each stall is taken from
-- what was left of them, and there are at most `most` accesses past the driver
pub record Tied (most : ℕ) (old new : Counters) : Type 0 where
  pub commands : old.data_commands ≤ new.data_commands
  pub interrupts : RoseBy (new.data_commands - old.data_commands) old.taken new.taken
  pub stalls : old.stalls ≤ new.stalls
  pub stalls_left : new.stalls + new.stalls_left ≤ old.stalls + old.stalls_left
  pub accesses : new.direct ≤ old.direct + most

pub tied_after : (n m : ℕ) (old mid new : Counters) → Tied n old mid → Tied m mid new → Tied (n + m) old new
tied_after n m old mid new first second = record {
  commands = omega (arith, first.commands, second.commands);
  interrupts = omega (arith, first.interrupts, second.interrupts, first.commands, second.commands);
  stalls = omega (arith, first.stalls, second.stalls);
  stalls_left = omega (arith, first.stalls_left, second.stalls_left);
  accesses = omega (arith, first.accesses, second.accesses);
}

-- nothing happened
pub tied_none : (old : Counters) → Tied 0 old old
tied_none old = record { commands = omega arith; interrupts = omega arith; stalls = omega arith; stalls_left = omega arith; accesses = omega arith }

past_tied : (most : ℕ) (old new : Counters) → GoesOn old new → IsPastDriver most old new → Tied most old new
past_tied most old new goes past = record {
  commands = goes.data_commands;
  interrupts = omega (arith, past.no_commands, goes.taken);
  stalls = goes.stalls;
  stalls_left = goes.stalls_spent;
  accesses = past.accesses;
}

driven_tied : (most : ℕ) (old new : Counters) → GoesOn old new → IsDriven most old new → Tied 0 old new
driven_tied most old new goes driven = record {
  commands = goes.data_commands;
  interrupts = driven.interrupts;
  stalls = goes.stalls;
  stalls_left = goes.stalls_spent;
  accesses = omega (arith, driven.past_driver);
}

pub tied_more : (n m : ℕ) (old new : Counters) → n ≤ m → Tied n old new → Tied m old new
tied_more n m old new more tied = record {
  commands = tied.commands;
  interrupts = tied.interrupts;
  stalls = tied.stalls;
  stalls_left = tied.stalls_left;
  accesses = omega (arith, tied.accesses);
}

same_tied : {accesses : ℕ} (old new : State) → IsSame accesses old new → Tied 0 old.station.counters new.station.counters
same_tied old new same = driven_tied 0 _ _ same.counts same.idle

changed_tied : (old new : State) (bay : ℕ) (name : Option (List ℕ)) (medium : Option _) → ChangesMedium bay name medium old new → Tied 1 old.station.counters new.station.counters
changed_tied old new bay name medium changes = past_tied 1 _ _ changes.counts changes.exchanged.access

-- a call of the driver that may be refused at once is the driver's
called_driven : {A : Type 0} {P : Type 0} (refusal : Option Code) (answer : Result A Code) (most : ℕ) (old new : StationState) → MatchOption refusal P (λ code. IsRefusedAtOnce code old answer new) → (P → IsDriven most old.counters new.counters) → GoesOn old.counters new.counters → Tied 0 old.counters new.counters
called_driven refusal answer most old new called reached goes =
    either refusal called (λ p. driven_tied most old.counters new.counters goes (reached p)) (λ code refused. driven_tied 0 old.counters new.counters goes refused.idle)

acks_driven : {P : Type 0} (good : Bool) (old new : StationState) (answer : Result (Unit {0}) Code) (code : Code) → MatchBool good P (IsRefusedAtOnce code old answer new) → (P → IsDriven 6 old.counters new.counters) → GoesOn old.counters new.counters → Tied 0 old.counters new.counters
acks_driven true old new answer code called reached goes = driven_tied 6 old.counters new.counters goes (reached called)
acks_driven false old new answer code called reached goes = driven_tied 0 old.counters new.counters goes called.idle

does_tied : (old new : State) (told after : Option Files) (asked : Request) (answer : Reply) → Does asked old told answer new after → Tied (accesses_of asked) old.station.counters new.station.counters
does_tied old new told after (request.Insert bay name) answer does = changed_tied old new bay _ _ does.2.2
does_tied old new told after (request.Blank bay name cylinders) answer does = changed_tied old new bay _ _ does.2
does_tied old new told after (request.BlankDd bay name cylinders) answer does = changed_tied old new bay _ _ does.2
does_tied old new told after (request.Eject bay) answer does = changed_tied old new bay _ _ does.1.4
does_tied old new told after (request.Ack bay) answer does = acks_driven (is_bay bay) old.station new.station does.1.0 _ does.1.2 (λ p. p.driven) does.0.counts
does_tied old new told after (request.Read bay key address) answer does = called_driven (read_refusal old.station bay key address) does.1.0 old.station.tries old.station new.station does.1.2 (λ p. p.driven) does.0.counts
does_tied old new told after (request.Write bay key address) answer does = called_driven (write_refusal old.station bay key address) does.1.0 _ old.station new.station does.1.2 (λ p. p.driven) does.0.counts
does_tied old new told after (request.WriteDeleted bay key address) answer does = called_driven (write_refusal old.station bay key address) does.1.0 _ old.station new.station does.1.2 (λ p. p.driven) does.0.counts
does_tied old new told after (request.Format bay c h) answer does = called_driven (format_refusal old.station bay c h _) does.1.0 _ old.station new.station does.1.2 (λ p. p.driven) does.0.counts
does_tied old new told after (request.Fill address count byte) answer does = past_tied count _ _ does.2.counts does.2.access
does_tied old new told after (request.Dump address count) answer does = same_tied old new does.2
does_tied old new told after (request.Unit bay) answer does = record {
  commands = omega (arith, does.3.access.no_commands);
  interrupts = omega (arith, does.3.access.no_commands, does.3.counts.taken);
  stalls = omega (arith, does.3.counts.stalls);
  stalls_left = omega (arith, does.3.counts.stalls, does.3.counts.stalls_left);
  accesses = does.3.access.accesses;
}
does_tied old new told after (request.SetRate bay rate) answer does = called_driven (rate_refusal old.station bay) does.1.0 0 old.station new.station does.1.2 (λ p. p.idle) does.0.counts
does_tied old new told after (request.Tries tries) answer does = driven_tied 0 _ _ does.0.counts does.2.idle

-- a step
pub step_tied : (old new : State) (told after : Option Files) (asked : Request) (answer : Reply) → Step asked old told answer new after → Tied (accesses_of asked) old.station.counters new.station.counters
step_tied old new told after asked answer step =
    either (refusal_of old asked) step (does_tied old new told after asked answer) (λ cause refused. tied_more 0 (accesses_of asked) _ _ (omega arith) (same_tied old new refused.same))

-- a run
pub run_tied : (old new : State) (told after : Option Files) (course : List Taken) → Run old told course new after → Tied (sum_by accesses_of (requests_of course)) old.station.counters new.station.counters
run_tied old new told after [] run = subst (λ (s : State). Tied 0 old.station.counters s.station.counters) (sym run.0) (tied_none old.station.counters)
run_tied old new told after (taken ∷ later) run =
    subst (λ (n : ℕ). Tied n old.station.counters new.station.counters) (sym (sum_by-cons accesses_of taken.asked (requests_of later))) (tied_after (accesses_of taken.asked) (sum_by accesses_of (requests_of later)) _ _ _ (step_tied old taken.after told run.0 taken.asked taken.answer run.1) (run_tied taken.after new run.0 after later run.2))

-- the counters after the course of a run are those that the run left
pub run_counters : (old new : State) (told after : Option Files) (course : List Taken) → Run old told course new after → counters_after old.station.counters course ≡ new.station.counters
run_counters old new told after [] run = ap (λ (s : State). s.station.counters) (sym run.0)
run_counters old new told after (taken ∷ later) run = run_counters taken.after new run.0 after later run.2

-- the state after a stop
stopped_tied : (old new : State) (asked : Request) → AfterStop asked old new → Tied (accesses_of asked) old.station.counters new.station.counters
stopped_tied old new (request.Eject bay) stopped = changed_tied old new bay _ _ stopped
stopped_tied old new (request.Insert bay name) stopped = tied_more 0 1 _ _ (omega arith) (same_tied old new stopped)
stopped_tied old new (request.Blank bay name cylinders) stopped = tied_more 0 1 _ _ (omega arith) (same_tied old new stopped)
stopped_tied old new (request.BlankDd bay name cylinders) stopped = tied_more 0 1 _ _ (omega arith) (same_tied old new stopped)
stopped_tied old new (request.Unit bay) stopped = tied_more 0 1 _ _ (omega arith) (same_tied old new stopped)
stopped_tied old new (request.Fill address count byte) stopped = tied_more 0 count _ _ (omega arith) (same_tied old new stopped)
stopped_tied old new _ stopped = same_tied old new stopped

-- at a stop at most one access goes past the driver: that of an eject, which drops the medium
stopped_accesses : (old new : State) (asked : Request) → AfterStop asked old new → new.station.counters.direct ≤ old.station.counters.direct + 1
stopped_accesses old new (request.Eject bay) stopped = stopped.exchanged.access.accesses
stopped_accesses old new _ stopped = let idle = stopped.idle.past_driver in omega arith

pub stop_accesses : (old new : State) (told after : Option Files) (asked : Request) (cause : Stop) → StopsAt asked old told cause new after → new.station.counters.direct ≤ old.station.counters.direct + 1
stop_accesses old new told after asked cause stops = stopped_accesses old new asked stops.after

-- a request that stopped the run
pub stop_tied : (old new : State) (told after : Option Files) (asked : Request) (cause : Stop) → StopsAt asked old told cause new after → Tied (accesses_of asked) old.station.counters new.station.counters
stop_tied old new told after asked cause stops = stopped_tied old new asked stops.after

bay_tied : (old new : State) (told after : Option Files) (bay : ℕ) → EndsBay bay old told new after → Tied 1 old.station.counters new.station.counters
bay_tied old new told after bay (Stored stores) = changed_tied old new bay _ _ stores.4
bay_tied old new told after bay (Left left) = tied_more 0 1 _ _ (omega arith) (same_tied old new left.same)

-- the end of a run
pub ends_tied : (old new : State) (told after : Option Files) → Ends old told new after → Tied 2 old.station.counters new.station.counters
ends_tied old new told after ends = tied_after 1 1 _ _ _ (bay_tied old ends.0 told ends.1 0 ends.2) (bay_tied ends.0 new ends.1 after 1 ends.3)

-- an end that stopped
pub end_stop_tied : (old new : State) (told after : Option Files) → EndStopsAt old told new after → Tied 2 old.station.counters new.station.counters
end_stop_tied old new told after (AtFirst drops same) = tied_more 1 2 _ _ (omega arith) (changed_tied old new 0 _ _ drops.changes)
end_stop_tied old new told after (AtSecond mid ends drops) = tied_after 1 1 _ _ _ (bay_tied old mid told after 0 ends) (changed_tied mid new 1 _ _ drops.changes)

-- ---- How counters change in a step, from the drives that stand in the bays during the step.

does_goes : (old new : State) (told after : Option Files) (asked : Request) (answer : Reply) → Does asked old told answer new after → GoesOn (entered_by old.station.counters asked answer) new.station.counters
does_goes old new told after (request.Insert bay name) answer does = does.2.2.counts
does_goes old new told after (request.Blank bay name cylinders) answer does = does.2.counts
does_goes old new told after (request.BlankDd bay name cylinders) answer does = does.2.counts
does_goes old new told after (request.Eject bay) answer does = does.1.4.counts
does_goes old new told after (request.Fill address count byte) answer does = does.2.counts
does_goes old new told after (request.Dump address count) answer does = does.2.counts
does_goes old new told after (request.Unit bay) answer does =
    subst (λ (a : Reply). GoesOn (entered_by old.station.counters (request.Unit bay) a) new.station.counters) (sym does.0)
    (exchange_goes old.station.counters new.station.counters bay does.3.counts does.3.access.no_commands)
does_goes old new told after _ answer does = does.0.counts

-- a refused request exchanges no drive
refused_enters : (counters : Counters) (asked : Request) (cause : Reason) → entered_by counters asked (reply.Refused cause) ≡ counters
refused_enters counters (request.Insert bay name) cause = refl
refused_enters counters (request.Blank bay name cylinders) cause = refl
refused_enters counters (request.BlankDd bay name cylinders) cause = refl
refused_enters counters (request.Eject bay) cause = refl
refused_enters counters (request.Ack bay) cause = refl
refused_enters counters (request.Read bay key address) cause = refl
refused_enters counters (request.Write bay key address) cause = refl
refused_enters counters (request.WriteDeleted bay key address) cause = refl
refused_enters counters (request.Format bay c h) cause = refl
refused_enters counters (request.Fill address count byte) cause = refl
refused_enters counters (request.Dump address count) cause = refl
refused_enters counters (request.Unit bay) cause = refl
refused_enters counters (request.SetRate bay rate) cause = refl
refused_enters counters (request.Tries tries) cause = refl

-- a step
pub step_goes : (old new : State) (told after : Option Files) (asked : Request) (answer : Reply) → Step asked old told answer new after → GoesOn (entered_by old.station.counters asked answer) new.station.counters
step_goes old new told after asked answer step =
    either (refusal_of old asked) step (does_goes old new told after asked answer)
    (λ cause refused.
    subst (λ (a : Reply). GoesOn (entered_by old.station.counters asked a) new.station.counters) (sym refused.answered)
    (subst (λ (c : Counters). GoesOn c new.station.counters) (sym (refused_enters old.station.counters asked cause)) refused.same.counts))

-- the state after a stop
stopped_goes : (old new : State) (asked : Request) → AfterStop asked old new → GoesOn old.station.counters new.station.counters
stopped_goes old new (request.Eject bay) stopped = stopped.counts
stopped_goes old new (request.Insert bay name) stopped = stopped.counts
stopped_goes old new (request.Blank bay name cylinders) stopped = stopped.counts
stopped_goes old new (request.BlankDd bay name cylinders) stopped = stopped.counts
stopped_goes old new (request.Unit bay) stopped = stopped.counts
stopped_goes old new (request.Fill address count byte) stopped = stopped.counts
stopped_goes old new (request.Ack bay) stopped = stopped.counts
stopped_goes old new (request.Read bay key address) stopped = stopped.counts
stopped_goes old new (request.Write bay key address) stopped = stopped.counts
stopped_goes old new (request.WriteDeleted bay key address) stopped = stopped.counts
stopped_goes old new (request.Format bay c h) stopped = stopped.counts
stopped_goes old new (request.Dump address count) stopped = stopped.counts
stopped_goes old new (request.SetRate bay rate) stopped = stopped.counts
stopped_goes old new (request.Tries tries) stopped = stopped.counts

-- a request that stopped the run
pub stop_goes : (old new : State) (told after : Option Files) (asked : Request) (cause : Stop) → StopsAt asked old told cause new after → GoesOn old.station.counters new.station.counters
stop_goes old new told after asked cause stops = stopped_goes old new asked stops.after

bay_goes : (old new : State) (told after : Option Files) (bay : ℕ) → EndsBay bay old told new after → GoesOn old.station.counters new.station.counters
bay_goes old new told after bay (Stored stores) = stores.4.counts
bay_goes old new told after bay (Left left) = left.same.counts

-- the end of a run
pub ends_goes : (old new : State) (told after : Option Files) → Ends old told new after → GoesOn old.station.counters new.station.counters
ends_goes old new told after ends = goes_on_after _ _ _ (bay_goes old ends.0 told ends.1 0 ends.2) (bay_goes ends.0 new ends.1 after 1 ends.3)

-- an end that stopped
pub end_stop_goes : (old new : State) (told after : Option Files) → EndStopsAt old told new after → GoesOn old.station.counters new.station.counters
end_stop_goes old new told after (AtFirst drops same) = drops.changes.counts
end_stop_goes old new told after (AtSecond mid ends drops) = goes_on_after _ _ _ (bay_goes old mid told after 0 ends) drops.changes.counts
